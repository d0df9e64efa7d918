use Rattle.verdict_words.proofs.Steps.{sits_fresh}
use Rattle.verdict_words.proofs.seat.VerdictSeat.first.Goals as goal

pub invariant_of-result : goal.invariant_of-result
invariant_of-result c = (c.requires.table, sits_fresh c.args.steps.now.key c.args.steps.now.table_id.words c.args.own.me c.requires.words c.requires.fresh)
