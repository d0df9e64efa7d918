-- Whether the policy of a key was touched.
use Rattle.std.proofs.Common.{◌≡◌, ◌⊎◌, ℕ, zero, suc, ◌<◌, ◌≤◌, Bool, true, false, cond, leb, ◌&&◌, ◌||◌, List, ◌++◌, refl, sym, ap, ◌∙◌, arith, inl, inr}
use Rattle.std.proofs.lemmas.Bool.Decides.{leb_tells}
use Rattle.std.proofs.lemmas.List.Folds.{list_any-append}
use Rattle.rules.specs.State.{StateKey, is_same_key, is_among}
use Rattle.rules.specs.Job.{Job, candidate_at, touched_by}
use Rattle.rules.specs.Assignment.{Assignment, touched_under}
use Rattle.rules.proofs.Booleans.{or-swap, or-true, and-false}

among_either : (k : StateKey) (t u : List StateKey) (b : Bool) → is_among k (cond b (u ++ t) u) ≡ ((b && is_among k t) || is_among k u)
among_either k t u true = list_any-append (is_same_key k) u t ∙ or-swap (is_among k u) (is_among k t)
among_either k t u false = refl

-- by one candidate more
pub touched_under-step : (j : Job) (called : Assignment) (k : StateKey) (i : ℕ) → is_among k (touched_under j called (suc i)) ≡ ((called i && is_among k (touched_by (candidate_at j i))) || is_among k (touched_under j called i))
unfolding touched_under
touched_under-step j called k i = among_either k (touched_by (candidate_at j i)) (touched_under j called i) (called i)

-- it was where one before i that is called yes writes it
pub touched_under-hit : (j : Job) (called : Assignment) (k : StateKey) (h i : ℕ) → h < i → called h ≡ true → is_among k (touched_by (candidate_at j h)) ≡ true → is_among k (touched_under j called i) ≡ true
touched_under-hit j called k h zero lt is writes = absurd (omega arith)
touched_under-hit j called k h (suc i) lt is writes = touched_under-step j called k i ∙ by (touched_under-hit j called k h i) (leb_tells i h)
  where
    by : (h < i → called h ≡ true → is_among k (touched_by (candidate_at j h)) ≡ true → is_among k (touched_under j called i) ≡ true)
        → ((leb i h ≡ true) × (i ≤ h)) ⊎ ((leb i h ≡ false) × (h < i)) → ((called i && is_among k (touched_by (candidate_at j i))) || is_among k (touched_under j called i)) ≡ true
    by earlier (inl d) =
        let same : h ≡ i = omega arith in
        let now : (called i && is_among k (touched_by (candidate_at j i))) ≡ true = ap (λ (x : ℕ). called x && is_among k (touched_by (candidate_at j x))) (sym same) ∙ rw (is, writes) refl in
        ap (λ (b : Bool). b || is_among k (touched_under j called i)) now
    by earlier (inr d) = ap (λ (b : Bool). (called i && is_among k (touched_by (candidate_at j i))) || b) (earlier d.1 is writes) ∙ or-true (called i && is_among k (touched_by (candidate_at j i)))

-- and wasn't where none of them is called yes
pub touched_under-none : (j : Job) (called : Assignment) (k : StateKey) (i : ℕ) → ((h : ℕ) → h < i → is_among k (touched_by (candidate_at j h)) ≡ true → called h ≡ false) → is_among k (touched_under j called i) ≡ false
unfolding touched_under
touched_under-none j called k zero none = refl
touched_under-none j called k (suc i) none =
    touched_under-step j called k i
    ∙ ap (λ (b : Bool). (called i && is_among k (touched_by (candidate_at j i))) || b) (touched_under-none j called k i (λ h lt. none h (omega arith)))
    ∙ ap (λ (b : Bool). b || false) (by (is_among k (touched_by (candidate_at j i))) refl)
  where
    by : (b : Bool) → is_among k (touched_by (candidate_at j i)) ≡ b → (called i && is_among k (touched_by (candidate_at j i))) ≡ false
    by true writes = ap (λ (b : Bool). b && is_among k (touched_by (candidate_at j i))) (none i (omega arith) writes)
    by false apart = ap (λ (b : Bool). called i && b) apart ∙ and-false (called i)
