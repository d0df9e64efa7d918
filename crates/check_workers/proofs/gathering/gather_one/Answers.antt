use Rattle.verdict_words.specs.Laws.{goes_on}
use Rattle.verdict_words.proofs.Words.{stays_known}
use Rattle.verdict_words.proofs.Steps.{waits_for_smaller}
use Rattle.check_workers.proofs.gathering.gather_one.Goals as goal

pub unreachable-requires : goal.unreachable-requires
unreachable-requires c =
    let h = c.in_default.field-0 in
    let waits = c.in_default.ensures.decision in
    let moves = goes_on c.args.seat.now c.knows.new.self c.settle.new.self c.knows.ensures.moves c.settle.ensures.moves in
    stays_known c.args.seat.now.known c.settle.new.self.known moves.stays h (c.requires.before h (waits_for_smaller c.args.job.now c.args.task h waits.0)) waits.1
