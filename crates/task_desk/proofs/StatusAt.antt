-- Statuses behind a change of one.
use Rattle.std.proofs.Common.{◌≡◌, ◌≢◌, ◌⊎◌, inl, inr, ℕ, ◌<◌, ◌≤◌, leb, suc, Bool, true, false, List, length, map, set, sym, ap, ◌∙◌, arith}
use Rattle.std.proofs.Math.ListN.{get_or-eq_default, get_or-map}
use Rattle.std.proofs.lemmas.Bool.Decides.{leb_tells}
use Rattle.std.proofs.lemmas.List.{get_or-set_same, get_or-set_other}
use Rattle.task_desk.specs.declared.status.Status.{Status}
use Rattle.task_desk.specs.declared.status.Status.TheVariants.{Done}
use Rattle.task_desk.specs.Status.{status_at}
use Rattle.task_desk.specs.Desk.{woken}

pub at_set : (tasks : List Status) (t : ℕ) (v : Status) → t < length tasks → status_at (set tasks t v) t ≡ v
at_set tasks t v lt = get_or-set_same tasks t v Done lt

pub at_other : (tasks : List Status) (t u : ℕ) (v : Status) → u ≢ t → status_at (set tasks t v) u ≡ status_at tasks u
at_other tasks t u v apart = get_or-set_other tasks t u v Done apart

pub at_woken : (h : ℕ) (tasks : List Status) (t : ℕ) → status_at (map (woken h) tasks) t ≡ woken h (status_at tasks t)
at_woken h tasks t = get_or-map (woken h) tasks t Done

-- what a done task done_not is a task that there is
pub inside : (p : Status → Bool) (tasks : List Status) (t : ℕ) → p Done ≡ false → p (status_at tasks t) ≡ true → t < length tasks
inside p tasks t done_not is = by (leb_tells (suc t) (length tasks))
  where
    by : ((leb (suc t) (length tasks) ≡ true) × (suc t ≤ length tasks)) ⊎ ((leb (suc t) (length tasks) ≡ false) × (length tasks < suc t)) → t < length tasks
    by (inl d) = d.1
    by (inr d) = absurd (let wrong : false ≡ true = sym done_not ∙ ap p (sym (get_or-eq_default tasks Done (omega arith))) ∙ is in cc)
