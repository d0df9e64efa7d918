use Rattle.std.proofs.Common.{◌≡◌, length, IfSome, IfOk}
use Rattle.std.specs.List.{All}
use Rattle.std.specs.Vec.Iter.{into_iter_items}
use Rattle.pieces.specs.Pieces.{IsMade, Fits}
use Rattle.pieces.proofs.joining.put_drawn.Given as goal

abbrev pub invariant-loop-one : goal.invariant-loop-one
invariant-loop-one g l =
    (length l.slots ≡ length l.pieces)
    × Fits (λ place slot. IfSome slot (λ made. IsMade (g.W.Work.gives l.work) l.pieces place made)) l.slots
    × All (λ one. IfOk one (λ all. All (λ made. IsMade (g.W.Work.gives l.work) l.pieces made.place made.item) all.items)) (into_iter_items l.one-iterator)
