-- While a task isn't done and none is out, one is ready.
use Rattle.std.proofs.Common.{◌≡◌, ℕ, zero, suc, ◌+◌, ◌<◌, Bool, true, false, cond, ◌&&◌, List, [], ◌∷◌, refl, sym, ap, ◌∙◌, arith}
use Rattle.std.specs.Prelude.{count_by}
use Rattle.std.specs.List.{list_all}
use Rattle.std.proofs.lemmas.List.Sums.{sum_by-cons}
use Rattle.task_desk.specs.declared.status.Status.{Status}
use Rattle.task_desk.specs.declared.status.Status.TheVariants.{Ready, Handed, Out, Parked, Done}
use Rattle.task_desk.specs.Status.{is_ready, is_out, is_done, status_at}
use Rattle.task_desk.specs.Desk.{IsDesk}

some_undone : (tasks : List Status) → list_all is_done tasks ≡ false → (t : ℕ) × (is_done (status_at tasks t) ≡ false)
some_undone [] not_all = absurd cc
some_undone (s ∷ tasks) not_all = by (is_done s) refl not_all (some_undone tasks)
  where
    by : (b : Bool) → is_done s ≡ b → (b && list_all is_done tasks) ≡ false → (list_all is_done tasks ≡ false → (t : ℕ) × (is_done (status_at tasks t) ≡ false)) → (t : ℕ) × (is_done (status_at (s ∷ tasks) t) ≡ false)
    by false e not_all further = (0, e)
    by true e not_all further = let rest = further not_all in (suc rest.0, rest.1)

none_out : (tasks : List Status) → count_by is_out tasks ≡ 0 → (t : ℕ) → is_out (status_at tasks t) ≡ false
none_out [] none t = refl
none_out (s ∷ tasks) none t = by (is_out s) refl (sym (sum_by-cons (λ x. cond (is_out x) 1 0) s tasks) ∙ none) t (none_out tasks)
  where
    by : (b : Bool) → is_out s ≡ b → cond b 1 0 + count_by is_out tasks ≡ 0 → (t : ℕ) → (count_by is_out tasks ≡ 0 → (t : ℕ) → is_out (status_at tasks t) ≡ false) → is_out (status_at (s ∷ tasks) t) ≡ false
    by true e sum t further = absurd (omega arith)
    by false e sum zero further = e
    by false e sum (suc t) further = further (omega arith) t

-- the least task that isn't done isn't parked
ready_below : (tasks : List Status) → IsDesk tasks → ((t : ℕ) → is_out (status_at tasks t) ≡ false) → (n t : ℕ) → t < n → is_done (status_at tasks t) ≡ false → (u : ℕ) × (is_ready (status_at tasks u) ≡ true)
ready_below tasks desk none zero t lt undone = absurd (omega arith)
ready_below tasks desk none (suc n) t lt undone = by (status_at tasks t) refl (ready_below tasks desk none n)
  where
    by : (s : Status) → status_at tasks t ≡ s → ((h : ℕ) → h < n → is_done (status_at tasks h) ≡ false → (u : ℕ) × (is_ready (status_at tasks u) ≡ true)) → (u : ℕ) × (is_ready (status_at tasks u) ≡ true)
    by Ready e below = (t, ap is_ready e)
    by Handed e below = (t, ap is_ready e)
    by Out e below = absurd (let wrong : true ≡ false = sym (ap is_out e) ∙ none t in cc)
    by (Parked h) e below = below h (let small = desk.smaller t h e in omega (arith, small)) (desk.undone t h e)
    by Done e below = absurd (let wrong : true ≡ false = sym (ap is_done e) ∙ undone in cc)

pub some_ready : (tasks : List Status) → IsDesk tasks → list_all is_done tasks ≡ false → count_by is_out tasks ≡ 0 → (t : ℕ) × (is_ready (status_at tasks t) ≡ true)
some_ready tasks desk not_all out = let first = some_undone tasks not_all in ready_below tasks desk (none_out tasks out) (suc first.0) first.0 (omega arith) first.1
