use Rattle.std.proofs.Common.{◌∙◌}
use Rattle.verdict_words.proofs.Found.{endorsement_found}
use Rattle.verdict_words.proofs.seat.VerdictSeat.settle_endorsement.Goals as goal

pub store-requires-clause-fold : goal.store-requires-clause-fold
store-requires-clause-fold c = λ within.
    c.endorsed_word.ensures
    ∙ endorsement_found c.args.job.now c.decide.new.board.job c.args.i c.in-Sure.endorsed c.decide.new.board.known (c.decide.ensures.moves.job ∙ c.requires.job) c.in-Sure.ensures.decision within
