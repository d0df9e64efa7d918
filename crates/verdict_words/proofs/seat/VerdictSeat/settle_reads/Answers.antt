use Rattle.std.proofs.Common.{◌∙◌, true, refl}
use Rattle.verdict_words.proofs.Words.{flag_unknown}
use Rattle.verdict_words.proofs.Found.{reads_found}
use Rattle.verdict_words.proofs.seat.VerdictSeat.settle_reads.Goals as goal

pub store-requires-clause-fold : goal.store-requires-clause-fold
store-requires-clause-fold c = λ within.
    c.flag_word.ensures
    ∙ reads_found c.args.job.now c.decide.new.board.job c.args.i c.in-Sure.verdict _ c.decide.new.board.known (c.decide.ensures.moves.job ∙ c.requires.job) c.flag.ensures (c.decide.ensures.grows.endorsed c.args.i true c.requires.endorsed) c.in-Sure.ensures.decision within

pub returns-in-Blocked-clause-decision : goal.returns-in-Blocked-clause-decision
returns-in-Blocked-clause-decision c =
    let d = c.in-Blocked.ensures.decision in
    ((_, refl, d.0), flag_unknown c.decide.new.board.job c.decide.new.board.known c.knows_the_fold.ensures _ d.1)
