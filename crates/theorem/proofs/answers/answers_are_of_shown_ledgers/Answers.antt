use Rattle.rules.specs.Answers.{row_answer, range_answer, history_answer, first_use_answer, definition_answer, block_answer, height_answer}
use Rattle.theorem.proofs.Seen.{answer_of_shown}
use Rattle.theorem.proofs.answers.answers_are_of_shown_ledgers.Goals as goal

pub returns-clause-row : goal.returns-clause-row
returns-clause-row g c old new k = answer_of_shown (λ w. row_answer w k) c old new

pub returns-clause-range : goal.returns-clause-range
returns-clause-range g c old new namespace start end limit = answer_of_shown (λ w. range_answer w namespace start end limit) c old new

pub returns-clause-history : goal.returns-clause-history
returns-clause-history g c old new k = answer_of_shown (λ w. history_answer w k) c old new

pub returns-clause-first_use : goal.returns-clause-first_use
returns-clause-first_use g c old new id = answer_of_shown (λ w. first_use_answer w id) c old new

pub returns-clause-definition : goal.returns-clause-definition
returns-clause-definition g c old new chaincode = answer_of_shown (λ w. definition_answer w chaincode) c old new

pub returns-clause-block : goal.returns-clause-block
returns-clause-block g c old new n = answer_of_shown (λ w. block_answer w n) c old new

pub returns-clause-height : goal.returns-clause-height
returns-clause-height g c old new = answer_of_shown (λ w. height_answer w) c old new
