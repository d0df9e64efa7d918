-- The range rule: a range query that is executed again gives the same keys and versions ('Read-Write set semantics'). How
-- far one that wasn't read to its end is compared is our own.
use Rattle.std.specs.Prelude.{ℕ, List, [], ◌∷◌, Bool, true, false, ◌&&◌, ◌||◌, map, filter, Option, Some, None}
use Rattle.std.specs.Str.{bytes_eq}
use Rattle.std.specs.List.{last_or}
use Rattle.std.specs.Cmp.Lexicographic.{pointwise}
use Rattle.std.specs.Ordering.{is_lt, is_le}
use Rattle.std.specs.FinMap.{entries}
use Rattle.transaction.specs.declared.transaction.Range.{Range}
use Rattle.transaction.specs.declared.transaction.KeyVersion.{KeyVersion}
use Rattle.transaction.specs.declared.transaction.Version.{Version}
use Rattle.transaction.specs.Same.{is_same_version}
use Rattle.values.specs.Order.{bytes_cmp}
use Rattle.rules.specs.declared.row.Row.{Row}
use Rattle.rules.specs.State.{StateKey, State}

-- an empty end is no bound
abbrev pub is_below : List ℕ → List ℕ → Bool
is_below key [] = true
is_below key (b ∷ bs) = is_lt (bytes_cmp key (b ∷ bs))

-- from the start to before the end
abbrev pub is_within : List ℕ → List ℕ → List ℕ → Bool
is_within start end key = is_le (bytes_cmp start key) && is_below key end

abbrev pub is_up_to : List ℕ → Option KeyVersion → Bool
is_up_to key None = false
is_up_to key (Some last) = is_le (bytes_cmp key last.key)

-- The part that is compared: the whole range or, where the query wasn't read to its end, up to and with the last result,
-- nothing where there is none.
abbrev pub is_compared : Range → List ℕ → Bool
is_compared r key = is_within r.start r.end key && (r.exhausted || is_up_to key (last_or None r.results))

-- the rows of a namespace whose keys pass a test, in the order of their keys
abbrev pub rows_where : State → List ℕ → (List ℕ → Bool) → List (StateKey × Row)
rows_where s namespace test = filter (λ e. bytes_eq namespace e.0.0 && test e.0.1) (entries s)

-- keys with their versions, as the state has them in the compared part, and as the query found them
abbrev pub versions_now : State → List ℕ → Range → List (List ℕ × Version)
versions_now s namespace r = map (λ e. (e.0.1, e.1.version)) (rows_where s namespace (is_compared r))

abbrev pub results_of : Range → List (List ℕ × Version)
results_of r = map (λ x. (x.key, x.version)) r.results

abbrev pub is_same_result : List ℕ × Version → List ℕ × Version → Bool
is_same_result a b = bytes_eq a.0 b.0 && is_same_version a.1 b.1

abbrev pub range_holds : State → List ℕ → Range → Bool
range_holds s namespace r = pointwise is_same_result (versions_now s namespace r) (results_of r)
