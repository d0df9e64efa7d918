use Rattle.std.proofs.Common.{◌≡◌, length}
use Rattle.pieces.specs.Pieces.{Fits}
use Rattle.lookahead.proofs.joining.in_order.Given as goal

abbrev pub invariant-loop-number : goal.invariant-loop-number
invariant-loop-number g l =
    (length l.all.items ≡ l.number)
    × Fits (λ number part. g.J.Makeable.may_be_part l.place l.count number part) l.all.items
