-- Each call keeps a desk: parked tasks wait for smaller ones that aren't done.
use Rattle.std.proofs.Common.{◌≡◌, ◌≢◌, ◌⊎◌, inl, inr, ℕ, ◌*◌, ◌<◌, ◌≤◌, leb, ltb, eqb, Bool, true, false, cond, ◌&&◌, List, length, set, refl, sym, ap, ◌∙◌, arith}
use Rattle.std.specs.Prelude.{replicate}
use Rattle.std.proofs.lemmas.Bool.Decides.{leb_tells, eqb_tells, Decides-ltb}
use Rattle.std.proofs.Math.ListN.{get_or-eq_default}
use Rattle.std.proofs.lemmas.List.{get_or-replicate, length-replicate}
use Rattle.task_desk.specs.declared.status.Status.{Status}
use Rattle.task_desk.specs.declared.status.Status.TheVariants.{Ready, Handed, Out, Parked, Done}
use Rattle.task_desk.specs.Status.{is_ready, is_unhanded, is_out, is_done, status_at}
use Rattle.task_desk.specs.Desk.{new_desk, with_out, with_handed, can_park, with_parked, woken, with_done, IsDesk}
use Rattle.task_desk.proofs.StatusAt.{at_set, at_other, at_woken, inside}

-- ---- a new desk

pub ready_or_done : (n t : ℕ) → (status_at (replicate n Ready) t ≡ Ready) ⊎ (status_at (replicate n Ready) t ≡ Done)
ready_or_done n t = by (leb_tells n t)
  where
    by : ((leb n t ≡ true) × (n ≤ t)) ⊎ ((leb n t ≡ false) × (t < n)) → (status_at (replicate n Ready) t ≡ Ready) ⊎ (status_at (replicate n Ready) t ≡ Done)
    by (inl d) = inr (get_or-eq_default (replicate n Ready) Done (omega (arith, length-replicate n Ready)))
    by (inr d) = inl (get_or-replicate n t Ready Done d.1)

not_parked : (s : Status) (h : ℕ) → (s ≡ Ready) ⊎ (s ≡ Done) → s ≡ Parked h → {A : Type 0} → A
not_parked s h (inl e) is = absurd (let wrong : Ready ≡ Parked h = sym e ∙ is in cc)
not_parked s h (inr e) is = absurd (let wrong : Done ≡ Parked h = sym e ∙ is in cc)

pub new-desk : (n : ℕ) → IsDesk (new_desk n)
new-desk n = record {
  smaller = λ t h is. not_parked (status_at (new_desk n) t) h (ready_or_done (2 * n) t) is;
  undone = λ t h is. not_parked (status_at (new_desk n) t) h (ready_or_done (2 * n) t) is;
}

-- ---- one task changes, and isn't done behind that

pub desk-set : (tasks : List Status) (t : ℕ) (v : Status) → IsDesk tasks → t < length tasks → is_done v ≡ false
    → ((h : ℕ) → v ≡ Parked h → (h < t) × (is_done (status_at tasks h) ≡ false)) → IsDesk (set tasks t v)
desk-set tasks t v desk lt alive parked = record {
  smaller = λ u h is. one u h (eqb_tells u t) is;
  undone = λ u h is. two u h (eqb_tells u t) is;
}
  where
    one : (u h : ℕ) → ((eqb u t ≡ true) × (u ≡ t)) ⊎ ((eqb u t ≡ false) × (u ≢ t)) → status_at (set tasks t v) u ≡ Parked h → h < u
    one u h (inl d) is =
        let here = (parked h (sym (at_set tasks t v lt) ∙ ap (status_at (set tasks t v)) (sym d.1) ∙ is)).0 in omega (arith, here, d.1)
    one u h (inr d) is = desk.smaller u h (sym (at_other tasks t u v d.1) ∙ is)

    still : (h : ℕ) → is_done (status_at tasks h) ≡ false → ((eqb h t ≡ true) × (h ≡ t)) ⊎ ((eqb h t ≡ false) × (h ≢ t)) → is_done (status_at (set tasks t v) h) ≡ false
    still h live (inl d) = ap (λ (n : ℕ). is_done (status_at (set tasks t v) n)) d.1 ∙ ap is_done (at_set tasks t v lt) ∙ alive
    still h live (inr d) = ap is_done (at_other tasks t h v d.1) ∙ live

    two : (u h : ℕ) → ((eqb u t ≡ true) × (u ≡ t)) ⊎ ((eqb u t ≡ false) × (u ≢ t)) → status_at (set tasks t v) u ≡ Parked h → is_done (status_at (set tasks t v) h) ≡ false
    two u h (inl d) is = still h (parked h (sym (at_set tasks t v lt) ∙ ap (status_at (set tasks t v)) (sym d.1) ∙ is)).1 (eqb_tells h t)
    two u h (inr d) is = still h (desk.undone u h (sym (at_other tasks t u v d.1) ∙ is)) (eqb_tells h t)

pub taken-desk : (tasks : List Status) (t : ℕ) → IsDesk tasks → is_ready (status_at tasks t) ≡ true → IsDesk (with_out tasks t)
taken-desk tasks t desk ready = desk-set tasks t Out desk (inside is_ready tasks t refl ready) refl (λ h is. absurd cc)

pub handed-desk : (tasks : List Status) (t : ℕ) → IsDesk tasks → is_unhanded (status_at tasks t) ≡ true → IsDesk (with_handed tasks t)
handed-desk tasks t desk ready = desk-set tasks t Handed desk (inside is_unhanded tasks t refl ready) refl (λ h is. absurd cc)

pub readied-desk : (tasks : List Status) (t : ℕ) → IsDesk tasks → t < length tasks → IsDesk (set tasks t Ready)
readied-desk tasks t desk lt = desk-set tasks t Ready desk lt refl (λ h is. absurd cc)

and-both : (a b : Bool) → (a && b) ≡ true → (a ≡ true) × (b ≡ true)
and-both true true e = (refl, refl)
and-both true false e = absurd cc
and-both false b e = absurd cc

-- what parking asks: the task is out, and the other one smaller
pub can_park-tells : (tasks : List Status) (t h : ℕ) → can_park tasks t h ≡ true → (is_out (status_at tasks t) ≡ true) × (h < t)
can_park-tells tasks t h can =
    let both = and-both (is_out (status_at tasks t)) (ltb h t) can in
    (both.0, (Decides-ltb h t).0 both.1)

pub parked-desk : (tasks : List Status) (t h : ℕ) → IsDesk tasks → t < length tasks → h < t → is_done (status_at tasks h) ≡ false → IsDesk (set tasks t (Parked h))
parked-desk tasks t h desk lt small alive = desk-set tasks t (Parked h) desk lt refl (λ g is. let same : h ≡ g = cc in (omega (arith, same, small), ap (λ (n : ℕ). is_done (status_at tasks n)) (sym same) ∙ alive))

pub with_parked-desk : (tasks : List Status) (t h : ℕ) → IsDesk tasks → can_park tasks t h ≡ true → IsDesk (with_parked tasks t h)
with_parked-desk tasks t h desk can = by (is_done (status_at tasks h)) refl
  where
    tells : (is_out (status_at tasks t) ≡ true) × (h < t)
    tells = can_park-tells tasks t h can

    by : (b : Bool) → is_done (status_at tasks h) ≡ b → IsDesk (set tasks t (cond b Ready (Parked h)))
    by true e = readied-desk tasks t desk (inside is_out tasks t refl tells.0)
    by false e = parked-desk tasks t h desk (inside is_out tasks t refl tells.0) tells.1 e

-- ---- a task is done

woken-parked : (t : ℕ) (s : Status) (h : ℕ) → woken t s ≡ Parked h → (s ≡ Parked h) × (h ≢ t)
woken-parked t (Parked g) h is = by (eqb_tells g t) is
  where
    by : ((eqb g t ≡ true) × (g ≡ t)) ⊎ ((eqb g t ≡ false) × (g ≢ t)) → cond (eqb g t) Ready (Parked g) ≡ Parked h → (Parked g ≡ Parked h) × (h ≢ t)
    by (inl d) is = absurd (let wrong : Ready ≡ Parked h = ap (λ b. cond b Ready (Parked g)) (sym d.0) ∙ is in cc)
    by (inr d) is = let same : Parked g ≡ Parked h = ap (λ b. cond b Ready (Parked g)) (sym d.0) ∙ is in (same, λ e. d.1 (let one : g ≡ h = cc in one ∙ e))
woken-parked t Ready h is = absurd cc
woken-parked t Handed h is = absurd cc
woken-parked t Out h is = absurd cc
woken-parked t Done h is = absurd cc

woken-done : (t : ℕ) (s : Status) → is_done (woken t s) ≡ is_done s
woken-done t (Parked g) = by (eqb g t)
  where
    by : (b : Bool) → is_done (cond b Ready (Parked g)) ≡ false
    by true = refl
    by false = refl
woken-done t Ready = refl
woken-done t Handed = refl
woken-done t Out = refl
woken-done t Done = refl

pub with_done-desk : (tasks : List Status) (t : ℕ) → IsDesk tasks → t < length tasks → IsDesk (with_done tasks t)
with_done-desk tasks t desk lt = record {
  smaller = λ u h is. (tells u h is (eqb_tells u t)).0;
  undone = λ u h is. (tells u h is (eqb_tells u t)).1;
}
  where
    tells : (u h : ℕ) → status_at (with_done tasks t) u ≡ Parked h → ((eqb u t ≡ true) × (u ≡ t)) ⊎ ((eqb u t ≡ false) × (u ≢ t)) → (h < u) × (is_done (status_at (with_done tasks t) h) ≡ false)
    tells u h is (inl d) =
        let before = woken-parked t (status_at (set tasks t Done) u) h (sym (at_woken t (set tasks t Done) u) ∙ is) in
        absurd (let wrong : Done ≡ Parked h = sym (at_set tasks t Done lt) ∙ ap (status_at (set tasks t Done)) (sym d.1) ∙ before.0 in cc)
    tells u h is (inr d) =
        let before = woken-parked t (status_at (set tasks t Done) u) h (sym (at_woken t (set tasks t Done) u) ∙ is) in
        let was = sym (at_other tasks t u Done d.1) ∙ before.0 in
        (desk.smaller u h was, ap is_done (at_woken t (set tasks t Done) h) ∙ woken-done t (status_at (set tasks t Done) h) ∙ ap is_done (at_other tasks t h Done before.1) ∙ desk.undone u h was)
