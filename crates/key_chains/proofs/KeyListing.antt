-- The lists of all keys, one of them with one item more.
use Rattle.std.proofs.Common.{◌≡◌, ◌≢◌, ◌⊎◌, inl, inr, ℕ, suc, ◌<◌, ◌≤◌, leb, true, false, List, [], ◌∷◌, ◌++◌, length, get_or, Option, Some, None, refl, sym, ap, subst, ◌∙◌, arith, All, length-append}
use Rattle.std.specs.Prelude.{slice_set}
use Rattle.std.proofs.Math.ListN.{get_or-append, get_or-eq_default}
use Rattle.std.proofs.Math.Seq.{get_or-append_seam}
use Rattle.std.proofs.lemmas.Bool.Decides.{leb_tells}
use Rattle.std.proofs.lemmas.List.Elements.{All-set}
use Rattle.std.proofs.lemmas.List.{get_or-set_same, get_or-set_other}
use Rattle.key_chains.specs.declared.links.Entry.{Entry}
use Rattle.key_chains.specs.Linked.{chain_in, list_of, IsLink, KeyedLists, LinksStay}
use Rattle.key_chains.specs.Lists.{lists_of}
use Rattle.key_chains.proofs.Chaining.{lists-push, length-lists}

-- what one push makes of the lists
pub record IsPushed {X : Type 0} (key : ℕ) (item : X) (old new : KeyedLists X) : Type 0 where
  pub here : list_of new key ≡ item ∷ list_of old key
  pub others : (k : ℕ) → k ≢ key → list_of new k ≡ list_of old k
  pub links : LinksStay old new
  pub all : All (IsLink new.0) new.1

module _ {X : Type 0} where
  stays : (lists : List (List X)) (x : List X) (link : Option ℕ) → IsLink lists link → IsLink (lists ++ x ∷ []) link × (chain_in (lists ++ x ∷ []) link ≡ chain_in lists link)
  stays lists x None h = (tt, refl)
  stays lists x (Some n) h = (omega (arith, length-append lists (x ∷ [])), get_or-append lists (x ∷ []) [] n h)

  -- where there is no key, there is no link
  pub link_at : (lists : List (List X)) (newest : List (Option ℕ)) (n : ℕ) → All (IsLink lists) newest → IsLink lists (get_or newest n None)
  link_at lists newest n all = by (leb_tells (suc n) (length newest))
    where
      by : ((leb (suc n) (length newest) ≡ true) × (suc n ≤ length newest)) ⊎ ((leb (suc n) (length newest) ≡ false) × (length newest < suc n)) → IsLink lists (get_or newest n None)
      by (inl h) = all n None h.1
      by (inr h) = subst (λ (link : Option ℕ). IsLink lists link) (sym (get_or-eq_default newest None (omega (arith, h.1)))) tt

  module _ (lists : List (List X)) (newest : List (Option ℕ)) (key : ℕ) (item : X) (lt : key < length newest) (all : All (IsLink lists) newest) where
    abbrev list : List X
    list = item ∷ chain_in lists (get_or newest key None)

    abbrev more : KeyedLists X
    more = (lists ++ list ∷ [], slice_set newest key (Some (length lists)))

    at_key : list_of more key ≡ list
    at_key =
        ap (chain_in (lists ++ list ∷ [])) (get_or-set_same newest key (Some (length lists)) None lt) ∙ get_or-append_seam lists list [] []

    elsewhere : (k : ℕ) → k ≢ key → list_of more k ≡ list_of (lists, newest) k
    elsewhere k apart =
        ap (chain_in (lists ++ list ∷ [])) (get_or-set_other newest key k (Some (length lists)) None apart)
        ∙ (stays lists list (get_or newest k None) (link_at lists newest k all)).1

    all_links : All (IsLink more.0) more.1
    all_links = All-set (IsLink more.0) newest key (Some (length lists)) (omega (arith, length-append lists (list ∷ []))) (λ k d h. (stays lists list (get_or newest k d) (all k d h)).0)

    one_more : IsPushed key item (lists, newest) more
    one_more = record { here = at_key; others = elsewhere; links = stays lists list; all = all_links }

  pub pushed : (es all : List (Entry X)) (newest : List (Option ℕ)) (key : ℕ) (item : X) (older : Option ℕ) (number : ℕ)
      → all ≡ es ++ (record { item = item; older = older }) ∷ [] → older ≡ get_or newest key None → number ≡ length es → key < length newest → All (IsLink (lists_of es)) newest
      → IsPushed key item (lists_of es, newest) (lists_of all, slice_set newest key (Some number))
  pushed es all newest key item older number is read counted lt links =
      subst (λ (v : KeyedLists X). IsPushed key item (lists_of es, newest) v) (sym same) (one_more (lists_of es) newest key item lt links)
    where
      made : lists_of all ≡ lists_of es ++ (item ∷ chain_in (lists_of es) (get_or newest key None)) ∷ []
      made = ap lists_of is ∙ lists-push es (record { item = item; older = older }) ∙ ap (λ (link : Option ℕ). lists_of es ++ (item ∷ chain_in (lists_of es) link) ∷ []) read

      same : ◌≡◌ {A = KeyedLists X} (lists_of all, slice_set newest key (Some number)) (lists_of es ++ (item ∷ chain_in (lists_of es) (get_or newest key None)) ∷ [], slice_set newest key (Some (length (lists_of es))))
      same = λ i. (made i, slice_set newest key (Some ((counted ∙ sym (length-lists es)) i)))
