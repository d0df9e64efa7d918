-- Reading fields one after the other, as a loop does.
use Rattle.std.proofs.Common.{◌≡◌, ℕ, suc, ◌-◌, ◌+◌, ◌≤◌, ◌<◌, List, [], ◌∷◌, ◌++◌, Some, None, refl, sym, ap, ◌∙◌, append_assoc, arith}
use Rattle.std.proofs.lemmas.List.{append-nil}
use Rattle.transaction.specs.declared.fault.TxFault.{TxFault}
use Rattle.transaction.specs.declared.fault.TxFault.TheVariants.{Form, Memory}
use Rattle.transaction.specs.Combined.{◌>>=◌, Read, Reader, fields_at}

-- what was read before, and what is still read
abbrev pub with_front : {A : Type 0} → List A → Read (List A) → Read (List A)
with_front front read = read >>= λ x. Some (front ++ x.0, x.1)

-- an error in the place of the next field
abbrev pub Fails : {A : Type 0} → TxFault → Read A → Type 0
Fails Form read = read ≡ None
Fails Memory read = Unit {0}

module _ {A : Type 0} (read : Reader A) (total : Read (List A)) where
  regroup : (front : List A) (x : A) (others : Read (List A)) → with_front front (others >>= λ y. Some (x ∷ y.0, y.1)) ≡ with_front (front ++ x ∷ []) others
  regroup front x (Some y) = ap (λ (xs : List A). Some (xs, y.1)) (simp append_assoc)
  regroup front x None = refl

  pub goes_on : (front : List A) (count i : ℕ) (bytes : List ℕ) (x : A) (after : List ℕ) → i < count → read bytes ≡ Some (x, after)
      → with_front front (fields_at read (count - i) bytes) ≡ total → with_front (front ++ x ∷ []) (fields_at read (count - (i + 1)) after) ≡ total
  unfolding fields_at
  goes_on front count i bytes x after lt h so_far =
      let k : count - i ≡ suc (count - (i + 1)) = omega arith in
      let one : with_front front (fields_at read (count - i) bytes) ≡ with_front (front ++ x ∷ []) (fields_at read (count - (i + 1)) after) = rw (k, h) (regroup front x (fields_at read (count - (i + 1)) after)) in
      sym one ∙ so_far

  pub ends : (e : TxFault) (front : List A) (count i : ℕ) (bytes : List ℕ) → i < count → Fails e (read bytes)
      → with_front front (fields_at read (count - i) bytes) ≡ total → Fails e total
  unfolding fields_at
  ends Memory front count i bytes lt h so_far = tt
  ends Form front count i bytes lt h so_far =
      let k : count - i ≡ suc (count - (i + 1)) = omega arith in
      let one : with_front front (fields_at read (count - i) bytes) ≡ None = rw (k, h) refl in
      sym so_far ∙ one

  pub is_done : (front : List A) (count i : ℕ) (bytes : List ℕ) → count ≤ i → with_front front (fields_at read (count - i) bytes) ≡ total → total ≡ Some (front, bytes)
  unfolding fields_at
  is_done front count i bytes le so_far =
      let k : count - i ≡ 0 = omega arith in
      let one : with_front front (fields_at read (count - i) bytes) ≡ Some (front, bytes) = rw k (ap (λ (xs : List A). Some (xs, bytes)) (append-nil front)) in
      sym so_far ∙ one
