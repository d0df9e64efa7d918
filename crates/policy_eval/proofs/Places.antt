-- The first free signer, place by place.
use Rattle.std.proofs.Common.{◌≡◌, ℕ, suc, ◌+◌, List, [], ◌∷◌, length, Bool, true, false, cond, Option, Some, None, refl, sym, ap, ◌∙◌, arith}
use Rattle.std.specs.Prelude.{not, ◌&&◌, nat_lt, option_map, slice_get, position}
use Rattle.std.specs.List.{zip, position_or_len}
use Rattle.std.proofs.lemmas.Bool.Decides.{nat_tests}
use Rattle.transaction.specs.declared.identity.Identity.{Identity}
use Rattle.policy.specs.declared.tree.PolicyRole.{PolicyRole}
use Rattle.policy_eval.specs.Evaluation.{satisfies, first_free}

found_later : (n m : ℕ) → cond (nat_lt (1 + n) (suc m)) (Some (1 + n)) None ≡ option_map suc (cond (nat_lt n m) (Some n) None)
found_later n m = let e : 1 + n ≡ suc n = omega arith in rw e (by (nat_lt n m) refl)
  where
    by : (b : Bool) → nat_lt n m ≡ b → cond (nat_lt (suc n) (suc m)) (Some (suc n)) None ≡ option_map suc (cond b (Some n) None)
    by true h = let f : nat_lt (suc n) (suc m) ≡ true = grind (arith, nat_tests) in rw f refl
    by false h = let f : nat_lt (suc n) (suc m) ≡ false = grind (arith, nat_tests) in rw f refl

pub position-cons : {X : Type 0} (p : X → Bool) (x : X) (xs : List X) → position p (x ∷ xs) ≡ cond (p x) (Some 0) (option_map suc (position p xs))
position-cons p x xs = by (p x)
  where
    by : (b : Bool) → cond (nat_lt (cond (not b) (1 + position_or_len p xs) 0) (suc (length xs))) (Some (cond (not b) (1 + position_or_len p xs) 0)) None ≡ cond b (Some 0) (option_map suc (position p xs))
    by true = let f : nat_lt 0 (suc (length xs)) ≡ true = grind (arith, nat_tests) in rw f refl
    by false = found_later (position_or_len p xs) (length xs)

-- a signer with its mark may serve a principal
abbrev pub serves : List ℕ → PolicyRole → Identity × Bool → Bool
serves org role s = not s.1 && satisfies org role s.0

pub first_free-cons : (org : List ℕ) (role : PolicyRole) (s : Identity) (signers : List Identity) (u : Bool) (used : List Bool)
    → first_free org role (s ∷ signers) (u ∷ used) ≡ cond (serves org role (s, u)) (Some 0) (option_map suc (first_free org role signers used))
first_free-cons org role s signers u used = position-cons (serves org role) (s, u) (zip signers used)

-- what is known at the place that is found
pub record IsFree (org : List ℕ) (role : PolicyRole) (signers : List Identity) (used : List Bool) (place : ℕ) : Type 0 where
  pub signer : Identity
  pub at : slice_get signers place ≡ Some signer
  pub satisfied : satisfies org role signer ≡ true
  pub free : slice_get used place ≡ Some false

serves_is : (u : Bool) (b : Bool) → (not u && b) ≡ true → (u ≡ false) × (b ≡ true)
serves_is false b e = (refl, e)
serves_is true b e = absurd cc

pub free_at : (org : List ℕ) (role : PolicyRole) (signers : List Identity) (used : List Bool) (place : ℕ) → first_free org role signers used ≡ Some place → IsFree org role signers used place
free_at org role [] used place e = absurd cc
free_at org role (s ∷ signers) [] place e = absurd cc
free_at org role (s ∷ signers) (u ∷ used) place e =
    found (serves org role (s, u)) (first_free org role signers used) refl (λ k h. free_at org role signers used k h) (sym (first_free-cons org role s signers u used) ∙ e)
  where
    found : (b : Bool) (later : Option ℕ) → serves org role (s, u) ≡ b → ((k : ℕ) → later ≡ Some k → IsFree org role signers used k)
        → cond b (Some 0) (option_map suc later) ≡ Some place → IsFree org role (s ∷ signers) (u ∷ used) place
    found true later t ih h =
        let parts = serves_is u (satisfies org role s) t in
        let here : place ≡ 0 = cc in
        rw here (record { signer = s; at = refl; satisfied = parts.1; free = ap Some parts.0 })
    found false None t ih h = absurd cc
    found false (Some k) t ih h =
        let rest = ih k refl in
        let there : place ≡ suc k = cc in
        rw there (record { signer = rest.signer; at = rest.at; satisfied = rest.satisfied; free = rest.free })
