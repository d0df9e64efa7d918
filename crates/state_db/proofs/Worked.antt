-- Worked rows: homes of keys, and splits.
use Rattle.std.proofs.Common.{◌≡◌, ℕ, List, [], ◌∷◌, Some, None, refl}
use Rattle.rules.specs.declared.row.Row.{Row}
use Rattle.rules.specs.State.{StateKey}
use Rattle.state_db.specs.Pages.{RowList, joined, home}
use Rattle.state_db.specs.Ranges.{in_front, from_key}
use Rattle.state_db.specs.Edits.{edited}
use Rattle.state_db.specs.Need.{splits, need}

-- keys `a` to `f` of the namespace `n`
key : ℕ → StateKey
key letter = (110 ∷ [], letter ∷ [])

module _ (v w : Row) where
  -- a page of `a` and `c`, and one of `e`
  pages : List RowList
  pages = ((key 97, v) ∷ (key 99, v) ∷ []) ∷ ((key 101, v) ∷ []) ∷ []

  -- `c` belongs to the first page, `d` to the second, and what is behind all to the last
  home_of_c : home (key 99) pages ≡ 0
  unfolding key pages
  home_of_c = refl

  home_of_d : home (key 100) pages ≡ 1
  unfolding key pages
  home_of_d = refl

  home_of_f : home (key 102) pages ≡ 1
  unfolding key pages
  home_of_f = refl

  -- from `b` to before `e`
  range_of_b_to_e : in_front (110 ∷ []) (101 ∷ []) (from_key (key 98) (joined pages)) ≡ (key 99, v) ∷ []
  unfolding key pages
  range_of_b_to_e = refl

  -- `b` put, `c` changed, `e` removed
  edits_of_three : edited (joined pages) ((key 98, Some w) ∷ (key 99, Some w) ∷ (key 101, None) ∷ []) ≡ (key 97, v) ∷ (key 98, w) ∷ (key 99, w) ∷ []
  unfolding key pages
  edits_of_three = refl

  -- which take no splits
  need_of_three : need pages ((key 98, Some w) ∷ (key 99, Some w) ∷ (key 101, None) ∷ []) ≡ 0
  unfolding key pages
  need_of_three = refl

-- up to 256 rows stay, 257 are split, and 128 more again
splits_256 : splits 256 ≡ 0
splits_256 = refl

splits_257 : splits 257 ≡ 1
splits_257 = refl

splits_384 : splits 384 ≡ 1
splits_384 = refl

splits_385 : splits 385 ≡ 2
splits_385 = refl
