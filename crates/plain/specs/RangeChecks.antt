-- The two parts of a check of a range, over its results and over the keys that were ever changed. No public contract cites this.
use Rattle.std.specs.Prelude.{ℕ, List, Bool, not, ◌&&◌, ◌||◌, Some, is_none}
use Rattle.std.specs.List.{list_any}
use Rattle.std.specs.Option.{option_eq}
use Rattle.std.specs.Str.{bytes_eq}
use Rattle.std.specs.FinMap.{get}
use Rattle.transaction.specs.declared.transaction.Range.{Range}
use Rattle.transaction.specs.declared.transaction.KeyVersion.{KeyVersion}
use Rattle.transaction.specs.Same.{is_same_version}
use Rattle.rules.specs.declared.delta.Change.{Change}
use Rattle.rules.specs.State.{State, version_in}
use Rattle.rules.specs.Delta.{change_of}
use Rattle.rules.specs.Ranges.{is_compared}

-- a result is a row of the compared part, with its version
abbrev pub is_found : State → List ℕ → Range → KeyVersion → Bool
is_found s namespace r x = is_compared r x.key && option_eq is_same_version (version_in s (namespace, x.key)) (Some x.version)

-- a changed key that has a row in the compared part is a result
abbrev pub is_listed : State → List ℕ → Range → Change → Bool
is_listed s namespace r c =
    let k = (change_of c).0 in not (bytes_eq k.0 namespace) || not (is_compared r k.1) || is_none (get s (namespace, k.1)) || list_any (λ x. bytes_eq k.1 x.key) r.results
