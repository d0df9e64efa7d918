-- The counts after one conflict more.
use Rattle.std.proofs.Common.{◌≡◌, ◌≤◌, ◌<◌, ℕ, zero, suc, ◌+◌, Bool, true, false, cond, ◌&&◌, List, [], ◌∷◌, ◌++◌, length, get_or, take, replicate, Option, Some, None, refl, sym, ap, ◌∙◌, arith, append_assoc}
use Rattle.std.specs.List.{count_by, cons_option, filter_map}
use Rattle.std.proofs.lemmas.List.{take_more}
use Rattle.reasons.specs.declared.reason.Reason.{Reason}
use Rattle.std.proofs.lemmas.List.Sums.{sum_by_push}
use Rattle.rules.specs.State.{StateKey, is_same_key}
use Rattle.conflicts.specs.declared.conflict.Conflict.{Conflict}
use Rattle.conflicts.specs.declared.key_counts.KeyCounts.{KeyCounts}
use Rattle.conflicts.specs.declared.kind.Kind.{Kind}
use Rattle.conflicts.specs.declared.kind.Kind.TheVariants.{StaleRead, Phantom, OwnPolicy, PolicyTouched}
use Rattle.conflicts.specs.KeyCounts.{is_same_kind, is_of, is_in_block, counts_of, total_of}
use Rattle.conflicts.specs.Tally.{with_conflict}

pushed : {X : Type 0} (p : X → Bool) (before : List X) (x : X) (b : Bool) → p x ≡ b → count_by p (before ++ x ∷ []) ≡ count_by p before + cond b 1 0
pushed p before x b e = sum_by_push (λ y. cond (p y) 1 0) before x ∙ ap (λ d. count_by p before + cond d 1 0) e

kept : {X : Type 0} (p : X → Bool) (before : List X) (x : X) → p x ≡ false → count_by p (before ++ x ∷ []) ≡ count_by p before
kept p before x e = pushed p before x false e ∙ omega arith

module _ (k : StateKey) (before : List Conflict) (c : Conflict) where
  by : (b : Bool) → is_same_key c.key k ≡ b
      → counts_of k (before ++ c ∷ []) ≡ cond b (with_conflict c.kind c.in_block (counts_of k before)) (counts_of k before)
  by true e = λ i. record {
    stale_reads = (pushed (is_of k StaleRead) before c (is_same_kind c.kind StaleRead) (ap (λ b. b && is_same_kind c.kind StaleRead) e)) i;
    phantoms = (pushed (is_of k Phantom) before c (is_same_kind c.kind Phantom) (ap (λ b. b && is_same_kind c.kind Phantom) e)) i;
    own_policy = (pushed (is_of k OwnPolicy) before c (is_same_kind c.kind OwnPolicy) (ap (λ b. b && is_same_kind c.kind OwnPolicy) e)) i;
    policy_touched = (pushed (is_of k PolicyTouched) before c (is_same_kind c.kind PolicyTouched) (ap (λ b. b && is_same_kind c.kind PolicyTouched) e)) i;
    in_block = (pushed (is_in_block k) before c c.in_block (ap (λ b. b && c.in_block) e)) i;
  }
  by false e = λ i. record {
    stale_reads = (kept (is_of k StaleRead) before c (ap (λ b. b && is_same_kind c.kind StaleRead) e)) i;
    phantoms = (kept (is_of k Phantom) before c (ap (λ b. b && is_same_kind c.kind Phantom) e)) i;
    own_policy = (kept (is_of k OwnPolicy) before c (ap (λ b. b && is_same_kind c.kind OwnPolicy) e)) i;
    policy_touched = (kept (is_of k PolicyTouched) before c (ap (λ b. b && is_same_kind c.kind PolicyTouched) e)) i;
    in_block = (kept (is_in_block k) before c (ap (λ b. b && c.in_block) e)) i;
  }

  -- it counts for its key only
  pub one_more : counts_of k (before ++ c ∷ []) ≡ cond (is_same_key c.key k) (with_conflict c.kind c.in_block (counts_of k before)) (counts_of k before)
  one_more = by (is_same_key c.key k) refl

-- by one
pub total_more : (kind : Kind) (b : Bool) (n : KeyCounts) → total_of (with_conflict kind b n) ≡ total_of n + 1
total_more StaleRead b n = omega arith
total_more Phantom b n = omega arith
total_more OwnPolicy b n = omega arith
total_more PolicyTouched b n = omega arith

pub in_block_more : (kind : Kind) (b : Bool) (n : KeyCounts) → (with_conflict kind b n).in_block ≤ n.in_block + 1
in_block_more kind true n = omega arith
in_block_more kind false n = omega arith

-- ---- a loop over what is counted

pub joined : {X : Type 0} (before xs : List X) (i : ℕ) (x : X) → i < length xs → x ≡ get_or xs i x → (before ++ take i xs) ++ x ∷ [] ≡ before ++ take (i + 1) xs
joined before xs i x lt is =
    append_assoc before (take i xs) (x ∷ []) ∙ ap (λ l. before ++ l) (sym (take_more xs i x lt ∙ ap (λ y. take i xs ++ y ∷ []) (sym is)))

few_with : (o : Option Conflict) (cs : List Conflict) (n : ℕ) → length cs ≤ n → length (cons_option o cs) ≤ n + 1
few_with None cs n h = omega arith
few_with (Some c) cs n h = omega arith

-- no more conflicts than transactions, and no more missing endorsements
pub few : (found : Reason → Option Conflict) (reasons : List Reason) → length (filter_map found reasons) ≤ length reasons
few found [] = omega arith
few found (r ∷ rs) = let h = few_with (found r) (filter_map found rs) (length rs) (few found rs) in omega (arith, h)

pub at_zero : (n i : ℕ) → ◌≡◌ {A = ℕ} (get_or (replicate n 0) i 0) 0
at_zero zero zero = refl
at_zero zero (suc i) = refl
at_zero (suc n) zero = refl
at_zero (suc n) (suc i) = at_zero n i
