-- Lists by a link, which is the number of the entry that they begin with, or none. No public contract cites this.
use Rattle.std.specs.Prelude.{◌≡◌, ℕ, ◌<◌, List, [], length, Option, Some, None, IfSome, slice_index_or}

abbrev pub chain_in : {X : Type 0} → List (List X) → Option ℕ → List X
chain_in lists None = []
chain_in lists (Some n) = slice_index_or lists n []

abbrev pub IsLink : {X : Type 0} → List (List X) → Option ℕ → Type 0
IsLink lists link = IfSome link (λ n. n < length lists)

-- for each entry the list that it begins, and for each key the newest entry
abbrev pub KeyedLists : Type 0 → Type 0
KeyedLists X = List (List X) × List (Option ℕ)

abbrev pub list_of : {X : Type 0} → KeyedLists X → ℕ → List X
list_of lists key = chain_in lists.0 (slice_index_or lists.1 key None)

-- links lead where they did
abbrev pub LinksStay : {X : Type 0} → KeyedLists X → KeyedLists X → Type 0
LinksStay old new = (link : Option ℕ) → IsLink old.0 link → IsLink new.0 link × (chain_in new.0 link ≡ chain_in old.0 link)
