-- The first and the last number below a bound.
use Rattle.std.proofs.Common.{◌≡◌, ℕ, zero, suc, ◌<◌, Bool, true, false, cond, ◌&&◌, ◌||◌, ◌++◌, Option, Some, None, is_some, refl, sym, ap, ◌∙◌, arith}
use Rattle.std.specs.Option.{option_or}
use Rattle.std.proofs.lemmas.List.Folds.{list_any-append}
use Rattle.rules.specs.State.{StateKey, is_same_key, is_among}
use Rattle.rules.specs.Job.{Job, candidate_at, touched_by}
use Rattle.rules.specs.Fold.{running, endorsed}
use Rattle.reasons.specs.First.{first_below, last_below}
use Rattle.reasons.specs.Endorsement.{touches}
use Rattle.reasons.proofs.Lists.{some_is, some_and_none}

pub first_below-lt : (test : ℕ → Bool) (n h : ℕ) → first_below test n ≡ Some h → h < n
unfolding first_below
first_below-lt test zero h e = absurd (some_and_none h (sym e))
first_below-lt test (suc n) h e = by (first_below test n) refl (test n) e (first_below-lt test n h)
  where
    by : (o : Option ℕ) → first_below test n ≡ o → (b : Bool) → option_or o (cond b (Some n) None) ≡ Some h → (first_below test n ≡ Some h → h < n) → h < suc n
    by (Some g) is b e rest = let lt = rest (is ∙ e) in omega (arith, lt)
    by None is true e rest = let same : n ≡ h = some_is n h e in omega (arith, same)
    by None is false e rest = absurd (some_and_none h (sym e))

pub last_below-lt : (test : ℕ → Bool) (n h : ℕ) → last_below test n ≡ Some h → h < n
unfolding last_below
last_below-lt test zero h e = absurd (some_and_none h (sym e))
last_below-lt test (suc n) h e = by (test n) e (last_below-lt test n h)
  where
    by : (b : Bool) → cond b (Some n) (last_below test n) ≡ Some h → (last_below test n ≡ Some h → h < n) → h < suc n
    by true e rest = let same : n ≡ h = some_is n h e in omega (arith, same)
    by false e rest = let lt = rest e in omega (arith, lt)

-- a key is touched where one before touches it
pub among_touched : (j : Job) (k : StateKey) (i : ℕ) → is_among k (running j i).touched ≡ is_some (first_below (touches j k) i)
unfolding running first_below
among_touched j k zero = refl
among_touched j k (suc i) = by (endorsed j i) (first_below (touches j k) i) (among_touched j k i)
  where
    either : (o : Option ℕ) (b : Bool) → (is_some o || b) ≡ is_some (option_or o (cond b (Some i) None))
    either None true = refl
    either None false = refl
    either (Some h) b = refl

    by : (b : Bool) (o : Option ℕ) → is_among k (running j i).touched ≡ is_some o
        → is_among k (cond b ((running j i).touched ++ touched_by (candidate_at j i)) (running j i).touched) ≡ is_some (option_or o (cond (b && is_among k (touched_by (candidate_at j i))) (Some i) None))
    by true o e =
        list_any-append (is_same_key k) (running j i).touched (touched_by (candidate_at j i))
        ∙ ap (λ (b : Bool). b || is_among k (touched_by (candidate_at j i))) e
        ∙ either o (is_among k (touched_by (candidate_at j i)))
    by false None e = e
    by false (Some h) e = e
