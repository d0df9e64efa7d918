-- A place more.
use Rattle.std.proofs.Common.{◌≡◌, ◌⊎◌, inl, inr, ℕ, ◌+◌, ◌<◌, ◌≤◌, true, false, cond, List, [], ◌∷◌, ◌++◌, length, take, set, get_or, sym, ap, subst, ◌∙◌, arith}
use Rattle.std.specs.Prelude.{◌==◌}
use Rattle.std.proofs.Math.ListN.{get_or-append}
use Rattle.std.proofs.Math.Seq.{take-append_seam}
use Rattle.std.proofs.Math.Dec.{leb}
use Rattle.std.proofs.lemmas.Bool.{cases_eq, eq-eqb, ne_eqb}
use Rattle.std.proofs.lemmas.Bool.Decides.{leb_tells}
use Rattle.std.proofs.lemmas.List.{length-append, length-map, length-set, take-append-le, get_or_push, get_or-set_same, get_or-set_other, map-append, map-set, set-get_or}
use Rattle.history_index.specs.declared.links.Link.{Link}
use Rattle.history_index.specs.Buckets.{bucket_of, last_in, hashes_of, no_link, IsLinked, AreLinked, AreLinkedTo, KeepsLast}
use Rattle.history_index.proofs.Places.{last_place-push}
use Rattle.history_index.proofs.Buckets.{link_at}

-- the next place in its bucket
pub kept_more : (buckets hashes : List ℕ) (bucket hash place : ℕ) → bucket ≡ bucket_of (length buckets) hash → bucket < length buckets → KeepsLast buckets hashes → place ≡ length hashes + 1
    → KeepsLast (set buckets bucket place) (hashes ++ hash ∷ [])
kept_more buckets hashes bucket hash place own within keeps at b lt =
    by (cases_eq b bucket)
    ∙ sym (last_place-push (λ h. bucket_of (length buckets) h == b) hashes hash)
    ∙ ap (λ n. last_in n b (hashes ++ hash ∷ [])) (sym (length-set buckets bucket place))
  where
    by : ((b ≡ bucket) ⊎ (b ≡ bucket → ⊥)) → get_or (set buckets bucket place) b 0 ≡ cond (bucket_of (length buckets) hash == b) (length hashes + 1) (last_in (length buckets) b hashes)
    by (inl e) =
        ap (λ i. get_or (set buckets bucket place) i 0) e ∙ get_or-set_same buckets bucket place 0 within ∙ at
        ∙ ap (λ t. cond t (length hashes + 1) (last_in (length buckets) b hashes)) (sym (eq-eqb (bucket_of (length buckets) hash) b (sym own ∙ sym e)))
    by (inr differs) =
        get_or-set_other buckets bucket b place 0 differs
        ∙ keeps b (omega (arith, lt, length-set buckets bucket place))
        ∙ ap (λ t. cond t (length hashes + 1) (last_in (length buckets) b hashes)) (sym (ne_eqb (bucket_of (length buckets) hash) b (λ e. differs (sym e ∙ sym own))))

-- a link is changed, but not its hash
module _ (n : ℕ) (links : List Link) (i older : ℕ) where
  abbrev changed : Link
  changed = record { hash = (link_at links i).hash; older = older }

  pub same_hashes : hashes_of (set links i changed) ≡ hashes_of links
  same_hashes =
      map-set (λ (l : Link). l.hash) links i changed
      ∙ sym (map-set (λ (l : Link). l.hash) links i (link_at links i))
      ∙ ap hashes_of (set-get_or links i no_link)

  pub linked_to : i < length links → AreLinkedTo n links i → IsLinked n (take i (hashes_of links)) changed → AreLinkedTo n (set links i changed) (i + 1)
  linked_to within linked own j lt = subst (λ hs. IsLinked n (take j hs) (link_at (set links i changed) j)) (sym same_hashes) (by (cases_eq j i))
    where
      by : ((j ≡ i) ⊎ (j ≡ i → ⊥)) → IsLinked n (take j (hashes_of links)) (link_at (set links i changed) j)
      by (inl e) =
          subst (λ m. IsLinked n (take m (hashes_of links)) (link_at (set links i changed) m)) (sym e)
          (subst (IsLinked n (take i (hashes_of links))) (sym (get_or-set_same links i changed no_link within)) own)
      by (inr differs) = subst (IsLinked n (take j (hashes_of links))) (sym (get_or-set_other links i j changed no_link differs)) (linked j (omega arith))

-- one after the others
pub linked_push : (n : ℕ) (links : List Link) (l : Link) → AreLinked n links → IsLinked n (hashes_of links) l → AreLinked n (links ++ l ∷ [])
linked_push n links l linked own i lt = by (leb_tells (length links) i)
  where
    hashes : hashes_of (links ++ l ∷ []) ≡ hashes_of links ++ l.hash ∷ []
    hashes = map-append (λ (x : Link). x.hash) links (l ∷ [])

    by : ((leb (length links) i ≡ true) × (length links ≤ i)) ⊎ ((leb (length links) i ≡ false) × (i < length links)) → IsLinked n (take i (hashes_of (links ++ l ∷ []))) (link_at (links ++ l ∷ []) i)
    by (inl g) =
        let here : length links ≡ i = omega (arith, g.1, lt, length-append links (l ∷ [])) in
        let len : length (hashes_of links) ≡ i = length-map links (λ (x : Link). x.hash) ∙ here in
        subst (IsLinked n (take i (hashes_of (links ++ l ∷ [])))) (sym (get_or_push links l no_link i here))
        (subst (λ before. IsLinked n before l) (sym (ap (take i) hashes ∙ ap (λ m. take m (hashes_of links ++ l.hash ∷ [])) (sym len) ∙ take-append_seam (hashes_of links) (l.hash ∷ []))) own)
    by (inr g) =
        subst (IsLinked n (take i (hashes_of (links ++ l ∷ [])))) (sym (get_or-append links (l ∷ []) no_link i g.1))
        (subst (λ before. IsLinked n before (link_at links i)) (sym (ap (take i) hashes ∙ take-append-le i (hashes_of links) (l.hash ∷ []) (omega (arith, g.1, length-map links (λ (x : Link). x.hash)))))
        (linked i g.1))
