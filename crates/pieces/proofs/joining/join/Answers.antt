use native.Mathlib.Omega.{arith}
use Rattle.pieces.proofs.OnePiece.{one_more, at_end}
use Rattle.pieces.proofs.joining.join.Goals as goal

pub loop-place-preserved : goal.loop-place-preserved
loop-place-preserved g c = (
  c.take-slot.ensures.len,
  c.take-slot.ensures.fits,
  one_more _ _ _ _ _ _ c.in_ok-push.ensures.items c.in_ok-taken_or_made.ensures c.loop-place.invariant.2,
)

pub returns : goal.returns
returns g c = at_end _ _ _ _ (omega arith) c.loop-place.invariant.2
