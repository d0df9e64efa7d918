use Rattle.std.proofs.Common.{◌≡◌, length}
use Rattle.pieces.specs.Pieces.{Fits}
use Rattle.intake_workers.proofs.part.Part.all.Given as goal

abbrev pub invariant-loop-number : goal.invariant-loop-number
invariant-loop-number l =
    (length l.parts.items ≡ l.number)
    × Fits (λ number part. (part.count ≡ l.count) × (part.number ≡ number)) l.parts.items
