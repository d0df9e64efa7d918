use Rattle.std.proofs.Common.{sym, ◌∙◌}
use Rattle.std.proofs.lemmas.List.{take_more_same}
use Rattle.std.proofs.lemmas.Option.{get_or_from_slice_get, slice_get_within}
use Rattle.block_scripts.proofs.saying.are_same.Goals as goal

pub loop-index-preserved : goal.loop-index-preserved
loop-index-preserved c =
    let here = c.index-drafted-index.result in
    let there = c.is_at.ensures c.if-not-is_at.false in
    take_more_same c.args.drafted.now c.args.txs.now c.loop-index.index here c.loop-index-test.true (slice_get_within c.args.txs.now c.loop-index.index here there) c.loop-index.invariant
    (sym c.index-drafted-index.is ∙ sym (get_or_from_slice_get c.args.txs.now c.loop-index.index here here there))
