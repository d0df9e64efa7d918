-- The lists that entries make.
use Rattle.std.proofs.Common.{◌≡◌, ℕ, zero, suc, ◌+◌, ◌<◌, List, [], ◌∷◌, ◌++◌, length, get_or, Option, Some, None, refl, sym, ap, subst, ◌∙◌, arith, length-append, leb, ◌≤◌, true, false, inl, inr, ◌⊎◌}
use Rattle.std.proofs.lemmas.Bool.Decides.{leb_tells}
use Rattle.std.proofs.Math.ListN.{get_or-append}
use Rattle.std.proofs.Math.Seq.{get_or-append_seam}
use Rattle.std.specs.Prelude.{IfSome}
use Rattle.key_chains.specs.declared.links.Entry.{Entry}
use Rattle.key_chains.specs.Linked.{chain_in, IsLink}
use Rattle.key_chains.specs.Lists.{list_by, with_entries, lists_of, AreLinkedBack}

moved : (link : Option ℕ) (m n : ℕ) → m ≡ n → IfSome link (λ x. x < m) → IfSome link (λ x. x < n)
moved link m n e h = subst (λ (x : ℕ). IfSome link (λ y. y < x)) e h

module _ {X : Type 0} where
  abbrev one_more : List (List X) → Entry X → List (List X)
  one_more lists e = lists ++ list_by lists e ∷ []

  length-one_more : (lists : List (List X)) (e : Entry X) → length (one_more lists e) ≡ suc (length lists)
  length-one_more lists e = omega (arith, length-append lists (list_by lists e ∷ []))

  length-with : (lists : List (List X)) (es : List (Entry X)) → length (with_entries lists es) ≡ length lists + length es
  length-with lists [] = omega arith
  length-with lists (e ∷ es) = let h = length-with (one_more lists e) es in let k = length-one_more lists e in omega arith

  pub length-lists : (es : List (Entry X)) → length (lists_of es) ≡ length es
  unfolding lists_of
  length-lists es = let h : length (with_entries {X = X} [] es) ≡ 0 + length es = length-with [] es in omega arith

  with-push : (lists : List (List X)) (es : List (Entry X)) (e : Entry X) → with_entries lists (es ++ e ∷ []) ≡ one_more (with_entries lists es) e
  with-push lists [] e = refl
  with-push lists (x ∷ es) e = with-push (one_more lists x) es e

  pub lists-push : (es : List (Entry X)) (e : Entry X) → lists_of (es ++ e ∷ []) ≡ lists_of es ++ list_by (lists_of es) e ∷ []
  unfolding lists_of
  lists-push es e = with-push [] es e

  -- what was there stays
  kept : (lists : List (List X)) (es : List (Entry X)) (n : ℕ) → n < length lists → get_or (with_entries lists es) n [] ≡ get_or lists n []
  kept lists [] n lt = refl
  kept lists (e ∷ es) n lt = kept (one_more lists e) es n (let k = length-one_more lists e in omega arith) ∙ get_or-append lists (list_by lists e ∷ []) [] n lt

  kept_link : (lists : List (List X)) (es : List (Entry X)) (link : Option ℕ) → IsLink lists link → chain_in (with_entries lists es) link ≡ chain_in lists link
  kept_link lists es None h = refl
  kept_link lists es (Some n) h = kept lists es n h

  begins : (lists : List (List X)) (es : List (Entry X)) (n : ℕ) (d : Entry X) → n < length es → IfSome (get_or es n d).older (λ m. m < length lists + n)
      → get_or (with_entries lists es) (length lists + n) [] ≡ list_by (with_entries lists es) (get_or es n d)
  begins lists [] n d lt back = absurd (omega arith)
  begins lists (e ∷ es) zero d lt back =
      let here : length lists + 0 ≡ length lists = omega arith in
      let more = one_more lists e in
      ap (λ (i : ℕ). get_or (with_entries more es) i []) here
      ∙ kept more es (length lists) (let k = length-one_more lists e in omega arith)
      ∙ get_or-append_seam lists (list_by lists e) [] []
      ∙ ap (λ (l : List X). e.item ∷ l) (sym (kept_link lists (e ∷ es) e.older (moved e.older (length lists + 0) (length lists) here back)))
  begins lists (e ∷ es) (suc n) d lt back =
      let more = one_more lists e in
      let k = length-one_more lists e in
      let here : length lists + suc n ≡ length more + n = omega arith in
      ap (λ (i : ℕ). get_or (with_entries more es) i []) here
      ∙ begins more es n d (omega arith) (moved (get_or es n d).older (length lists + suc n) (length more + n) here back)

  -- an entry's list is its item, and the list that it is linked to
  pub list_begins : (es : List (Entry X)) (n : ℕ) (d : Entry X) → n < length es → AreLinkedBack es → get_or (lists_of es) n [] ≡ list_by (lists_of es) (get_or es n d)
  unfolding lists_of
  list_begins es n d lt back =
      let z : 0 + n ≡ n = omega arith in
      ap (λ (i : ℕ). get_or (with_entries [] es) i []) (sym z) ∙ begins [] es n d lt (moved (get_or es n d).older n (0 + n) (sym z) (back.back n d lt))

  -- ---- one more keeps all linked back

  linked_more : (es : List (Entry X)) (e : Entry X) → AreLinkedBack es → IfSome e.older (λ m. m < length es) → (n : ℕ) (d : Entry X) → n < length (es ++ e ∷ []) → IfSome (get_or (es ++ e ∷ []) n d).older (λ m. m < n)
  linked_more es e back here n d lt = by (leb_tells (suc n) (length es))
    where
      by : ((leb (suc n) (length es) ≡ true) × (suc n ≤ length es)) ⊎ ((leb (suc n) (length es) ≡ false) × (length es < suc n)) → IfSome (get_or (es ++ e ∷ []) n d).older (λ m. m < n)
      by (inl h) = subst (λ (x : Entry X). IfSome x.older (λ m. m < n)) (sym (get_or-append es (e ∷ []) d n h.1)) (back.back n d h.1)
      by (inr h) =
          let last : n ≡ length es = omega (arith, length-append es (e ∷ [])) in
          let is : get_or (es ++ e ∷ []) n d ≡ e = ap (λ (i : ℕ). get_or (es ++ e ∷ []) i d) last ∙ get_or-append_seam es e [] d in
          subst (λ (x : Entry X). IfSome x.older (λ m. m < n)) (sym is) (moved e.older (length es) n (sym last) here)

  pub linked_after : (es all : List (Entry X)) (e : Entry X) → AreLinkedBack es → IsLink (lists_of es) e.older → all ≡ es ++ e ∷ [] → AreLinkedBack all
  linked_after es all e back link is =
      subst AreLinkedBack (sym is) (record { back = linked_more es e back (moved e.older (length (lists_of es)) (length es) (length-lists es) link) })

  -- what an entry is linked to is there
  pub older_is_link : (es : List (Entry X)) (n : ℕ) (d : Entry X) → n < length es → AreLinkedBack es → IsLink (lists_of es) (get_or es n d).older
  older_is_link es n d lt back = by (get_or es n d).older (back.back n d lt)
    where
      by : (link : Option ℕ) → IfSome link (λ m. m < n) → IsLink (lists_of es) link
      by None h = tt
      by (Some m) h = let k = length-lists es in omega arith

  -- an entry that was read
  pub read_list : (es : List (Entry X)) (n : ℕ) (e : Entry X) → AreLinkedBack es → n < length (lists_of es) → e ≡ get_or es n e → get_or (lists_of es) n [] ≡ list_by (lists_of es) e
  read_list es n e back lt is = let k = length-lists es in list_begins es n e (omega arith) back ∙ ap (list_by (lists_of es)) (sym is)

  pub read_link : (es : List (Entry X)) (n : ℕ) (e : Entry X) → AreLinkedBack es → n < length (lists_of es) → e ≡ get_or es n e → IsLink (lists_of es) e.older
  read_link es n e back lt is = let k = length-lists es in subst (λ (x : Entry X). IsLink (lists_of es) x.older) (sym is) (older_is_link es n e (omega arith) back)

  pub lists-none : lists_of {X = X} [] ≡ []
  unfolding lists_of
  lists-none = refl

  pub older_below : (es : List (Entry X)) (n : ℕ) (e : Entry X) → AreLinkedBack es → n < length (lists_of es) → e ≡ get_or es n e → IfSome e.older (λ m. m < n)
  older_below es n e back lt is = let k = length-lists es in subst (λ (x : Entry X). IfSome x.older (λ m. m < n)) (sym is) (back.back n e (omega arith))
