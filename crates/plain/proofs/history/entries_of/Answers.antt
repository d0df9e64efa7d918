use Rattle.plain.proofs.Pieces.{one_piece}
use Rattle.plain.proofs.history.entries_of.Goals as goal

pub loop-set-preserved : goal.loop-set-preserved
loop-set-preserved c = one_piece _ c.as_slice-set-items.result.now c.loop-set.set-index c.set-item.result _ _ _ c.loop-set-test.true c.set-item.is c.loop-set.invariant c.in_ok-add_entries.ensures
