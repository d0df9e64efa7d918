-- Writing fields one after the other, as a loop does.
use Rattle.std.proofs.Common.{◌≡◌, ℕ, ◌+◌, ◌<◌, ◌≤◌, List, [], ◌∷◌, ◌++◌, length, get_or, take, sym, ap, subst, ◌∙◌, append_assoc}
use Rattle.std.specs.List.{flat_map, AllByRecursion}
use Rattle.std.proofs.lemmas.List.{take_more, take_all, append-nil}
use Rattle.std.proofs.lemmas.List.Concat.{flat_map-cons}

module _ {A : Type 0} (P : A → Type 0) where
  pub all_push : (xs : List A) (x : A) → AllByRecursion P xs → P x → AllByRecursion P (xs ++ x ∷ [])
  all_push [] x h p = (p, tt)
  all_push (y ∷ xs) x h p = (h.0, all_push xs x h.1 p)

pub flat_map-push : {A : Type 0} (f : A → List ℕ) (xs : List A) (x : A) → flat_map f (xs ++ x ∷ []) ≡ flat_map f xs ++ f x
flat_map-push f [] x = flat_map-cons f x [] ∙ append-nil (f x)
flat_map-push f (y ∷ xs) x =
    flat_map-cons f y (xs ++ x ∷ []) ∙ ap (λ (t : List ℕ). f y ++ t) (flat_map-push f xs x) ∙ sym (append_assoc (f y) (flat_map f xs) (f x)) ∙ ap (λ (t : List ℕ). t ++ f x) (sym (flat_map-cons f y xs))

pub record HasPut {A : Type 0} (spell : A → List ℕ) (P : A → Type 0) (old out : List ℕ) (done : List A) : Type 0 where
  pub written : out ≡ old ++ flat_map spell done
  pub within : AllByRecursion P done

module _ {A : Type 0} (spell : A → List ℕ) (P : A → Type 0) (old : List ℕ) (items : List A) where
  pub put_more : (out next : List ℕ) (i : ℕ) (x : A) → i < length items → x ≡ get_or items i x → HasPut spell P old out (take i items) → next ≡ out ++ spell x → P x → HasPut spell P old next (take (i + 1) items)
  put_more out next i x lt at h e p =
      let more : take (i + 1) items ≡ take i items ++ x ∷ [] = take_more items i x lt ∙ ap (λ (y : A). take i items ++ y ∷ []) (sym at) in
      let written : next ≡ old ++ flat_map spell (take i items ++ x ∷ []) =
      e ∙ ap (λ (t : List ℕ). t ++ spell x) h.written ∙ append_assoc old (flat_map spell (take i items)) (spell x) ∙ ap (λ (t : List ℕ). old ++ t) (sym (flat_map-push spell (take i items) x)) in
      let whole : HasPut spell P old next (take i items ++ x ∷ []) = record { written = written; within = all_push P (take i items) x h.within p } in
      subst (λ (xs : List A). HasPut spell P old next xs) (sym more) whole

  pub put_all : (out : List ℕ) (i : ℕ) → length items ≤ i → HasPut spell P old out (take i items) → HasPut spell P old out items
  put_all out i le h = subst (λ (xs : List A). HasPut spell P old out xs) (take_all i items le) h

-- parts that were written one behind the other
pub five_parts : (old a b c d e u v w x y : List ℕ) → a ≡ old ++ u → b ≡ a ++ v → c ≡ b ++ w → d ≡ c ++ x → e ≡ d ++ y → e ≡ old ++ (u ++ (v ++ (w ++ (x ++ y))))
five_parts old a b c d e u v w x y p q r s t =
    t ∙ ap (λ (z : List ℕ). z ++ y) (s ∙ ap (λ (z : List ℕ). z ++ x) (r ∙ ap (λ (z : List ℕ). z ++ w) (q ∙ ap (λ (z : List ℕ). z ++ v) p))) ∙ (simp append_assoc)

pub six_parts : (old a b c d e f u v w x y z : List ℕ) → a ≡ old ++ u → b ≡ a ++ v → c ≡ b ++ w → d ≡ c ++ x → e ≡ d ++ y → f ≡ e ++ z → f ≡ old ++ (u ++ (v ++ (w ++ (x ++ (y ++ z)))))
six_parts old a b c d e f u v w x y z p q r s t o =
    o ∙ ap (λ (k : List ℕ). k ++ z) (five_parts old a b c d e u v w x y p q r s t) ∙ (simp append_assoc)
