-- The first lines of chaincodes, one after the other.
use Rattle.std.proofs.Common.{◌≡◌, ◌≤◌, ◌<◌, ℕ, ◌+◌, Bool, true, false, cond, List, [], ◌∷◌, ◌++◌, length, get_or, map, take, drop, sym, ap, ◌∙◌, append_assoc}
use Rattle.std.specs.List.{list_any}
use Rattle.std.proofs.lemmas.List.{take_more, drop_more, map-append, append-nil, drop_all}
use Rattle.std.proofs.lemmas.List.Sums.{sum_by_push}
use Rattle.rules.specs.State.{StateKey}
use Rattle.conflicts.specs.declared.chaincode_line.ChaincodeLine.{ChaincodeLine}
use Rattle.conflicts.specs.KeyCounts.{total_of}
use Rattle.conflicts.specs.Laws.{total_where}
use Rattle.conflicts.specs.Chaincodes.{is_in, if_first, firsts, line_in}
use Rattle.conflicts.specs.Ranking.{Line}

pub picked : (lines before : List Line) (l : Line) (items new : List ChaincodeLine) (has : Bool) → list_any (λ b. is_in l.0.0 b.0) before ≡ has
    → new ≡ cond has items (items ++ line_in lines l ∷ []) → new ≡ items ++ map (line_in lines) (if_first before l)
picked lines before l items new true e is = is ∙ sym (append-nil items) ∙ ap (λ h. items ++ map (line_in lines) (cond h [] (l ∷ []))) (sym e)
picked lines before l items new false e is = is ∙ ap (λ h. items ++ map (line_in lines) (cond h [] (l ∷ []))) (sym e)

module _ (all : List Line) where
  -- a step of the loop
  pub one_more : (items : List ChaincodeLine) (i : ℕ) (x : Line) → i < length all → x ≡ get_or all i x
      → (items ++ map (line_in all) (if_first (take i all) x)) ++ map (line_in all) (firsts (take (i + 1) all) (drop (i + 1) all))
      ≡ items ++ map (line_in all) (firsts (take i all) (drop i all))
  one_more items i x lt is =
      let t : take (i + 1) all ≡ take i all ++ x ∷ [] = take_more all i x lt ∙ ap (λ y. take i all ++ y ∷ []) (sym is) in
      let d : drop i all ≡ x ∷ drop (i + 1) all = drop_more all i x lt ∙ ap (λ y. y ∷ drop (i + 1) all) (sym is) in
      append_assoc items (map (line_in all) (if_first (take i all) x)) (map (line_in all) (firsts (take (i + 1) all) (drop (i + 1) all)))
      ∙ ap (λ l. items ++ l)
      (sym (map-append (line_in all) (if_first (take i all) x) (firsts (take (i + 1) all) (drop (i + 1) all)))
      ∙ ap (map (line_in all)) (ap (λ b. if_first (take i all) x ++ firsts b (drop (i + 1) all)) t ∙ ap (λ r. firsts (take i all) r) (sym d)))

  -- and its end
  pub none_more : (items : List ChaincodeLine) (i : ℕ) → length all ≤ i → items ++ map (line_in all) (firsts (take i all) (drop i all)) ≡ items
  none_more items i le = ap (λ r. items ++ map (line_in all) (firsts (take i all) r)) (drop_all i all le) ∙ append-nil items

  pub total_more : (test : StateKey → Bool) (i : ℕ) (x : Line) → i < length all → x ≡ get_or all i x
      → total_where test (take (i + 1) all) ≡ total_where test (take i all) + cond (test x.0) (total_of x.1) 0
  total_more test i x lt is =
      ap (total_where test) (take_more all i x lt ∙ ap (λ y. take i all ++ y ∷ []) (sym is))
      ∙ sum_by_push (λ (l : Line). cond (test l.0) (total_of l.1) 0) (take i all) x
