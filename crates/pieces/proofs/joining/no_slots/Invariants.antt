use Rattle.std.proofs.Common.{◌≡◌, length, IfSome}
use Rattle.pieces.specs.Pieces.{IsMade, Fits}
use Rattle.pieces.proofs.joining.no_slots.Given as goal

abbrev pub invariant-loop : goal.invariant-loop
invariant-loop g l =
    (length l.slots.items ≡ l.counter)
    × Fits (λ place slot. IfSome slot (λ made. IsMade (g.W.Work.gives l.work) l.pieces place made)) l.slots.items
