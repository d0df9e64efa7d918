use Rattle.std.proofs.Common.{◌≡◌, length, IfSome}
use Rattle.std.specs.List.{All}
use Rattle.std.specs.Vec.Iter.{into_iter_items}
use Rattle.pieces.specs.Pieces.{IsMade, Fits}
use Rattle.pieces.proofs.joining.put_all.Given as goal

abbrev pub invariant-loop-made : goal.invariant-loop-made
invariant-loop-made g l =
    (length l.slots ≡ length l.pieces)
    × Fits (λ place slot. IfSome slot (λ made. IsMade (g.W.Work.gives l.work) l.pieces place made)) l.slots
    × All (λ made. IsMade (g.W.Work.gives l.work) l.pieces made.place made.item) (into_iter_items l.made-iterator)
