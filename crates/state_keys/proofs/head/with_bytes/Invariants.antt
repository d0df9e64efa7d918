use Rattle.std.proofs.Common.{◌≡◌, ℕ, ◌+◌, ◌<◌, ◌≤◌, get_or, length}
use Rattle.state_keys.proofs.head.with_bytes.Given as goal

abbrev pub invariant-loop-place : goal.invariant-loop-place
invariant-loop-place l = record {
  len : length l.head ≡ 24;
  before : (i : ℕ) → i < l.from → get_or l.head i 0 ≡ get_or l.fn.head i 0;
  there : (i : ℕ) → i < l.place → get_or l.head (l.from + i) 0 ≡ get_or l.bytes i 0;
  behind : (i : ℕ) → l.from + l.place ≤ i → get_or l.head i 0 ≡ get_or l.fn.head i 0;
}
