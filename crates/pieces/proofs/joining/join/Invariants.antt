use Rattle.std.proofs.Common.{◌≡◌, take, length, IfSome}
use Rattle.pieces.specs.Pieces.{IsMade, Fits, AreMade}
use Rattle.pieces.proofs.joining.join.Given as goal

abbrev pub invariant-loop-place : goal.invariant-loop-place
invariant-loop-place g l =
    (length l.slots ≡ length l.pieces)
    × Fits (λ place slot. IfSome slot (λ made. IsMade (g.W.Work.gives l.work) l.pieces place made)) l.slots
    × AreMade (g.W.Work.gives l.work) (take l.place l.pieces) l.all.items
