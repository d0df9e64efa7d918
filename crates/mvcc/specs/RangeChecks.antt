-- The parts of a check of a range: over its results, and over keys that may have a row. No public contract cites it.
use Rattle.std.specs.Prelude.{◌≡◌, ℕ, List, [], ◌∷◌, Bool, false, not, ◌||◌, ◌&&◌, Some, is_none}
use Rattle.std.specs.List.{list_any, list_all}
use Rattle.std.specs.Option.{option_eq}
use Rattle.std.specs.Str.{bytes_eq}
use Rattle.transaction.specs.declared.transaction.Range.{Range}
use Rattle.transaction.specs.declared.transaction.KeyVersion.{KeyVersion}
use Rattle.transaction.specs.Same.{is_same_version}
use Rattle.rules.specs.State.{State, version_in}
use Rattle.rules.specs.Ranges.{is_compared}

-- a result is in the compared part, and has its version there
abbrev pub is_found : State → List ℕ → Range → KeyVersion → Bool
is_found s namespace r x = is_compared r x.key && option_eq is_same_version (version_in s (namespace, x.key)) (Some x.version)

abbrev pub is_result : Range → List ℕ → Bool
is_result r q = list_any (λ x. bytes_eq q x.key) r.results

-- a key of the compared part that isn't a result is absent
abbrev pub is_listed : State → List ℕ → Range → List ℕ → Bool
is_listed s namespace r q = not (is_compared r q) || is_result r q || is_none (version_in s (namespace, q))

-- over the results, the keys of rows before the block, and those that it writes
abbrev pub is_as_found : State → List ℕ → Range → List (List ℕ) → List (List ℕ) → Bool
is_as_found s namespace r before written = list_all (is_found s namespace r) r.results && (list_all (is_listed s namespace r) before && list_all (is_listed s namespace r) written)

-- where one of these keys isn't compared, none behind it is
abbrev pub StopCompared : Range → List (List ℕ) → Type 0
StopCompared r [] = Unit {0}
StopCompared r (q ∷ qs) = (is_compared r q ≡ false → list_any (is_compared r) qs ≡ false) × StopCompared r qs
