use Rattle.std.proofs.Common.{rules}
use Rattle.verdict_words.proofs.Steps.{enters, sits_fresh}
use Rattle.verdict_words.proofs.seat.VerdictSeat.enter.Goals as goal

pub load_new_seat-own-requires : goal.load_new_seat-own-requires
load_new_seat-own-requires c = (search rules, enters c.args.steps.now.key c.args.steps.now.table_id.slots 0)

pub invariant_of-result : goal.invariant_of-result
invariant_of-result c =
    let e = c.load_new_seat-own.ensures in
    (e.0, sits_fresh c.args.steps.now.key c.args.steps.now.table_id.words c.load_new_seat-own.result.1.me c.requires.words e.2)
