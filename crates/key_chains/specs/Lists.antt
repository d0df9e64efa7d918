-- The lists that entries make. No public contract cites this.
use Rattle.std.specs.Prelude.{ℕ, ◌<◌, List, [], ◌∷◌, ◌++◌, length, IfSome, slice_index_or}
use Rattle.key_chains.specs.declared.links.Entry.{Entry}
use Rattle.key_chains.specs.Linked.{chain_in}

-- the list that an entry begins, behind entries with these lists
abbrev pub list_by : {X : Type 0} → List (List X) → Entry X → List X
list_by lists e = e.item ∷ chain_in lists e.older

abbrev pub with_entries : {X : Type 0} → List (List X) → List (Entry X) → List (List X)
with_entries lists [] = lists
with_entries lists (e ∷ es) = with_entries (lists ++ list_by lists e ∷ []) es

-- for each entry the list that it begins
unfoldable pub lists_of : {X : Type 0} → List (Entry X) → List (List X)
lists_of es = with_entries [] es

-- each entry is linked to one before it, if to any
pub record AreLinkedBack {X : Type 0} (es : List (Entry X)) : Type 0 where
  pub back : (n : ℕ) (d : Entry X) → n < length es → IfSome (slice_index_or es n d).older (λ m. m < n)
