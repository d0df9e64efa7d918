use Rattle.std.proofs.Common.{take}
use Rattle.transaction.proofs.PutLoop.{HasPut}
use Rattle.transaction.proofs.put.put_fields.Given as goal

abbrev pub invariant-loop-item : goal.invariant-loop-item
invariant-loop-item g l = HasPut g.T.Spelled.spelling g.T.Spelled.is_within l.fn.out.items l.out.items (take l.item-index l.items)
