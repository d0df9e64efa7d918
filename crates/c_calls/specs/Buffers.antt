-- What a call writes into a buffer.
use Rattle.std.specs.Prelude.{◌≡◌, ℕ, List, ◌++◌, length, drop, nat_le, if◌then◌else◌}
use Rattle.c_calls.specs.declared.codes.TheConstants.{OK, SMALL}

-- items at the front; what stood behind them stays
abbrev pub with_front : {X : Type 0} → List X → List X → List X
with_front items buffer = items ++ drop (length items) buffer

-- The items were written if they fit, and else nothing; how many they are was told in either case.
pub record Filled {X : Type 0} (items old new : List X) (told code : ℕ) : Type 0 where
  pub buffer : new ≡ (if nat_le (length items) (length old) then with_front items old else old)
  pub told_len : told ≡ length items
  pub told_code : code ≡ (if nat_le (length items) (length old) then OK else SMALL)
