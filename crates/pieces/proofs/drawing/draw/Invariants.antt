use Rattle.std.specs.List.{All}
use Rattle.pieces.specs.Pieces.{IsMade}
use Rattle.pieces.proofs.drawing.draw.Given as goal

abbrev pub invariant-loop : goal.invariant-loop
invariant-loop g l = All (λ made. IsMade (g.W.Work.gives l.pile.work.now) l.pile.pieces.now made.place made.item) l.all.items
