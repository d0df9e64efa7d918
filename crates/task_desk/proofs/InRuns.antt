-- Runs in lists.
use Rattle.std.proofs.Common.{◌≡◌, ◌≢◌, ◌⊎◌, inl, inr, ℕ, zero, suc, ◌+◌, ◌-◌, ◌<◌, ◌≤◌, eqb, true, false, List, length, map, set, get_or, refl, sym, ap, subst, ◌∙◌, add-one, arith}
use Rattle.std.proofs.lemmas.Bool.Decides.{eqb_tells}
use Rattle.std.proofs.lemmas.List.{length-set, map-set, set-get_or}
use Rattle.task_desk.specs.Runs.{with_run}

-- ---- one more of a run

pub run-step : {A : Type 0} (v : A) (xs : List A) (t end : ℕ) → t < end → with_run v xs t (end - t) ≡ with_run v (set xs t v) (t + 1) (end - (t + 1))
run-step v xs t end lt =
    let left : end - t ≡ suc (end - (t + 1)) = omega (arith, lt) in
    ap (with_run v xs t) left ∙ (λ k. with_run v (set xs t v) (sym (add-one t) k) (end - (t + 1)))

pub run-ends : {A : Type 0} (v : A) (xs : List A) (t : ℕ) → with_run v xs t (t - t) ≡ xs
run-ends v xs t = let none : t - t ≡ 0 = omega arith in ap (with_run v xs t) none

-- ---- what a run leaves as it was

pub run-length : {A : Type 0} (v : A) (xs : List A) (t n : ℕ) → length (with_run v xs t n) ≡ length xs
run-length v xs t zero = refl
run-length v xs t (suc n) = run-length v (set xs t v) (suc t) n ∙ length-set xs t v

pub run-map : {A B : Type 0} (f : A → B) (v : A) (xs : List A) (t n : ℕ) → map f (with_run v xs t n) ≡ with_run (f v) (map f xs) t n
run-map f v xs t zero = refl
run-map f v xs t (suc n) = run-map f v (set xs t v) (suc t) n ∙ ap (λ ys. with_run (f v) ys (suc t) n) (map-set f xs t v)

-- where each was so before
pub run-same : {A : Type 0} (v : A) (xs : List A) (t n : ℕ) (d : A) → ((u : ℕ) → t ≤ u → u < t + n → get_or xs u d ≡ v) → with_run v xs t n ≡ xs
run-same v xs t zero d are = refl
run-same v xs t (suc n) d are =
    ap (λ ys. with_run v ys (suc t) n) (ap (set xs t) (sym (are t (omega arith) (omega arith))) ∙ set-get_or xs t d)
    ∙ run-same v xs (suc t) n d (λ u above below. are u (omega (arith, above)) (omega (arith, below)))

-- a run of one
pub run-one : {A : Type 0} (v : A) (xs : List A) (t : ℕ) → with_run v xs t (t + 1 - t) ≡ set xs t v
run-one v xs t = let one : t + 1 - t ≡ 1 = omega arith in ap (with_run v xs t) one

-- what holds of a run and of the next one holds of one more
pub one-more : (P : ℕ → Type 0) (from n : ℕ) → ((t : ℕ) → from ≤ t → t < n → P t) → P n → (t : ℕ) → from ≤ t → t < n + 1 → P t
one-more P from n are next t le lt = by (eqb_tells t n)
  where
    by : ((eqb t n ≡ true) × (t ≡ n)) ⊎ ((eqb t n ≡ false) × (t ≢ n)) → P t
    by (inl d) = subst P (sym d.1) next
    by (inr d) = let apart = d.1 in are t le (omega (arith, lt, apart))
