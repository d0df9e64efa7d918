-- Of the keys that pass a test, the least by the order of bytes. No public contract cites this.
use Rattle.std.specs.Prelude.{ℕ, Bool, true, not, ◌&&◌, List, [], ◌∷◌, if◌then◌else◌, Option, Some, None}
use Rattle.std.specs.Option.{option_eq}
use Rattle.std.specs.Ordering.{is_lt}
use Rattle.transaction.specs.declared.transaction.Version.{Version}
use Rattle.transaction.specs.Same.{is_same_version}
use Rattle.values.specs.Order.{bytes_cmp}

-- a key has another version there than the one that was read
abbrev pub differs_at : (there read : List ℕ → Option Version) → List ℕ → Bool
differs_at there read key = not (option_eq is_same_version (there key) (read key))

-- less than the least so far
abbrev pub is_ahead : Option (List ℕ) → List ℕ → Bool
is_ahead None key = true
is_ahead (Some least) key = is_lt (bytes_cmp key least)

abbrev pub lesser : (List ℕ → Bool) → Option (List ℕ) → List ℕ → Option (List ℕ)
lesser test least key = if is_ahead least key && test key then Some key else least

-- the least of what is found so far and of those among more keys that pass
abbrev pub least_where : (List ℕ → Bool) → Option (List ℕ) → List (List ℕ) → Option (List ℕ)
least_where test least [] = least
least_where test least (key ∷ keys) = least_where test (lesser test least key) keys
