-- The candidates that touch a key, by those that write its policy.
use Rattle.std.proofs.Common.{◌≡◌, ◌⊎◌, inl, inr, ℕ, zero, suc, ◌<◌, ◌≤◌, leb, Bool, true, false, cond, ◌&&◌, ◌∷◌, Option, Some, None, refl, sym, ap, ◌∙◌, arith}
use Rattle.std.specs.Prelude.{nat_lt}
use Rattle.std.specs.Option.{option_or}
use Rattle.std.proofs.lemmas.Bool.Decides.{leb_tells, Decides-ltb}
use Rattle.rules.specs.State.{StateKey, is_among}
use Rattle.rules.specs.Job.{Job, candidate_at, touched_by}
use Rattle.rules.specs.Fold.{endorsed}
use Rattle.key_chains.specs.PolicyWriters.{policy_writers}
use Rattle.reasons.specs.First.{first_below}
use Rattle.reasons.specs.Endorsement.{touches}
use Rattle.reasons_from_state.specs.Touchers.{last_passing}

and-true : (b : Bool) → (b && true) ≡ b
and-true true = refl
and-true false = refl

no_more : (a b : Bool) → (a && (b && false)) ≡ false
no_more true true = refl
no_more true false = refl
no_more false b = refl

or-none : {X : Type 0} (o : Option X) → option_or o None ≡ o
or-none None = refl
or-none (Some x) = refl

is_before : (h i : ℕ) → h < i → nat_lt h i ≡ true
is_before h i lt = (Decides-ltb h i).1 lt

is_not_before : (h i : ℕ) → i ≤ h → nat_lt h i ≡ false
is_not_before h i le = by (nat_lt h i) refl
  where
    by : (b : Bool) → nat_lt h i ≡ b → b ≡ false
    by false e = refl
    by true e = let lt = (Decides-ltb h i).0 e in absurd (omega (arith, lt, le))

-- ---- the first number that passes

first_below-same : (f g : ℕ → Bool) (n : ℕ) → ((h : ℕ) → h < n → f h ≡ g h) → first_below f n ≡ first_below g n
unfolding first_below
first_below-same f g zero same = refl
first_below-same f g (suc n) same =
    let rest = first_below-same f g n (λ h lt. same h (omega arith)) in
    let here = same n (omega arith) in
    λ t. option_or (rest t) (cond (here t) (Some n) None)

-- one above the bound doesn't count
first_below-cut : (test : ℕ → Bool) (i n : ℕ) → i ≤ n → first_below (λ h. nat_lt h i && test h) n ≡ first_below test i
unfolding first_below
first_below-cut test i zero le = let none : zero ≡ i = omega arith in ap (first_below test) none
first_below-cut test i (suc n) le = by (leb_tells i n) (first_below-cut test i n)
  where
    by : ((leb i n ≡ true) × (i ≤ n)) ⊎ ((leb i n ≡ false) × (n < i)) → (i ≤ n → first_below (λ h. nat_lt h i && test h) n ≡ first_below test i)
        → option_or (first_below (λ h. nat_lt h i && test h) n) (cond (nat_lt n i && test n) (Some n) None) ≡ first_below test i
    by (inl d) rest =
        ap (λ (b : Bool). option_or (first_below (λ h. nat_lt h i && test h) n) (cond (b && test n) (Some n) None)) (is_not_before n i d.1)
        ∙ or-none (first_below (λ h. nat_lt h i && test h) n) ∙ rest d.1
    by (inr d) rest =
        let same : suc n ≡ i = omega arith in
        first_below-same (λ h. nat_lt h i && test h) test (suc n) (λ h lt. ap (λ (b : Bool). b && test h) (is_before h i (omega arith)))
        ∙ ap (first_below test) same

-- ---- touchers

module _ (j : Job) (k : StateKey) (i : ℕ) where
  by_writers : (n : ℕ) → last_passing (λ h. nat_lt h i && endorsed j h) (policy_writers j.candidates k n) ≡ first_below (λ h. nat_lt h i && touches j k h) n
  unfolding policy_writers first_below
  by_writers zero = refl
  by_writers (suc n) = by (is_among k (touched_by (candidate_at j n))) (by_writers n)
    where
      by : (b : Bool) → last_passing (λ h. nat_lt h i && endorsed j h) (policy_writers j.candidates k n) ≡ first_below (λ h. nat_lt h i && touches j k h) n
          → last_passing (λ h. nat_lt h i && endorsed j h) (cond b (n ∷ policy_writers j.candidates k n) (policy_writers j.candidates k n))
          ≡ option_or (first_below (λ h. nat_lt h i && touches j k h) n) (cond (nat_lt n i && (endorsed j n && b)) (Some n) None)
      by true e = λ t. option_or (e t) (cond (nat_lt n i && sym (and-true (endorsed j n)) t) (Some n) None)
      by false e =
          e ∙ sym (or-none (first_below (λ h. nat_lt h i && touches j k h) n))
          ∙ ap (λ (b : Bool). option_or (first_below (λ h. nat_lt h i && touches j k h) n) (cond b (Some n) None)) (sym (no_more (nat_lt n i) (endorsed j n)))

  pub first_toucher_by : (n : ℕ) → i ≤ n → last_passing (λ h. nat_lt h i && endorsed j h) (policy_writers j.candidates k n) ≡ first_below (touches j k) i
  first_toucher_by n le = by_writers n ∙ first_below-cut (touches j k) i n le
