-- The list that results if neighbours of one key are joined.
use Rattle.std.proofs.Common.{◌≡◌, Bool, true, false, cond, List, [], ◌∷◌, IsTrue, refl, ap, ◌∙◌}
use Rattle.std.specs.Bool.{MatchBool}
use Rattle.std.specs.List.Retain.{IsDeduped, DedupsFrom}
use Rattle.rules.specs.State.{is_same_key}
use Rattle.candidates.specs.declared.written_key.WrittenKey.{WrittenKey}
use Rattle.candidates.specs.Gathering.{both_writes, joined_from, joined}

-- a call that got x next to the last one kept, and left both so
abbrev pub IsJoin : WrittenKey → WrittenKey → Bool → WrittenKey → WrittenKey → Type 0
IsJoin x k b x' k' = (b ≡ is_same_key x.key k.key) × (IsTrue b → k' ≡ both_writes k x) × (b ≡ false → (k' ≡ k) × (x' ≡ x))

module _ {S : Type 0} (R : S → WrittenKey → WrittenKey → Bool → S → WrittenKey → WrittenKey → Type 0)
    (says : (s : S) (x k : WrittenKey) (b : Bool) (t : S) (x' k' : WrittenKey) → R s x k b t x' k' → IsJoin x k b x' k') where
  chosen : (b : Bool) (x k x' k' : WrittenKey) (xs ys : List WrittenKey) (t : S) → IsJoin x k b x' k' →
      ((j : WrittenKey) → DedupsFrom R t j xs ys → ys ≡ joined_from j xs) → ((zs : List WrittenKey) → DedupsFrom R t x' xs zs → zs ≡ joined_from x' xs) →
      MatchBool b (DedupsFrom R t k' xs ys) ((zs : List WrittenKey) × DedupsFrom R t x' xs zs × (ys ≡ k' ∷ zs)) → ys ≡ cond b (joined_from (both_writes k x) xs) (k ∷ joined_from x xs)
  chosen true x k x' k' xs ys t said one other h = one k' h ∙ ap (λ j. joined_from j xs) (said.1 refl)
  chosen false x k x' k' xs ys t said one other h =
      let kept = said.2 refl in
      h.2 ∙ (λ i. kept.0 i ∷ (other h.0 h.1 ∙ ap (λ j. joined_from j xs) kept.1) i)

  from_is : (xs : List WrittenKey) (s : S) (k : WrittenKey) (ys : List WrittenKey) → DedupsFrom R s k xs ys → ys ≡ joined_from k xs
  from_is [] s k ys h = h
  from_is (x ∷ xs) s k ys h =
      let said = says s x k h.0 h.1 h.2 h.3 h.4 in
      chosen h.0 x k h.2 h.3 xs ys h.1 said (λ j d. from_is xs h.1 j ys d) (λ zs d. from_is xs h.1 h.2 zs d) h.5
      ∙ ap (λ b. cond b (joined_from (both_writes k x) xs) (k ∷ joined_from x xs)) said.0

  pub joined_is : (s : S) (xs ys : List WrittenKey) → IsDeduped R s xs ys → ys ≡ joined xs
  joined_is s [] ys h = h.told
  joined_is s (x ∷ xs) ys h = from_is xs s x ys h.told
