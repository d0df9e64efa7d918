use Rattle.std.proofs.Common.{◌∙◌}
use Rattle.intake.proofs.Places.{tentative-are, ids_are}
use Rattle.intake.proofs.placing.tentative_candidates_are_the_definitions.Goals as goal

pub returns-clause-candidates : goal.returns-clause-candidates
returns-clause-candidates c = tentative-are

pub returns-clause-ids : goal.returns-clause-ids
returns-clause-ids c channel accepts items taken ids cs are same = are.are_ids ∙ ids_are channel accepts taken items same
