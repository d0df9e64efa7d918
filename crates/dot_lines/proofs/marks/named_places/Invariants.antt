use Rattle.std.proofs.Common.{◌≡◌, ℕ, ◌<◌, false, take, length, get_or}
use Rattle.std.specs.List.{list_any}
use Rattle.dot_lines.proofs.Marking.{names}
use Rattle.dot_lines.proofs.marks.named_places.Given as goal

abbrev pub invariant-loop-reason : goal.invariant-loop-reason
invariant-loop-reason l = record {
  count : length l.places.items ≡ length l.reasons;
  each : (i : ℕ) → i < length l.reasons → get_or l.places.items i false ≡ list_any (names i) (take l.reason-index l.reasons);
}
