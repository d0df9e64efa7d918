use Rattle.std.proofs.Common.{◌≡◌, ℕ, ◌<◌, ◌≤◌, get_or, bit_xor}
use Rattle.key_book.proofs.hmac.key_xor.Given as goal

abbrev pub invariant-loop-byte : goal.invariant-loop-byte
invariant-loop-byte l = record {
  before : (k : ℕ) → k < l.byte-index → get_or l.byte-items k 0 ≡ bit_xor (get_or l.initial.byte-items k 0) l.pad;
  from : (k : ℕ) → l.byte-index ≤ k → get_or l.byte-items k 0 ≡ get_or l.initial.byte-items k 0;
}
