-- A board that shows the fold so far goes on to show it.
use Rattle.std.proofs.Common.{◌≡◌, ◌≢◌, ◌⊎◌, inl, inr, ℕ, suc, ◌<◌, ◌+◌, eqb, Bool, true, false, List, length, Option, Some, None, sym, ap, subst, ◌∙◌, arith}
use Rattle.std.specs.Prelude.{option_map, slice_set}
use Rattle.std.proofs.lemmas.Bool.Decides.{eqb_tells}
use Rattle.std.proofs.lemmas.List.{get_or-set_same, get_or-set_other}
use Rattle.rules.specs.declared.flag.Flag.{Flag}
use Rattle.rules.specs.declared.read_verdict.ReadVerdict.{ReadVerdict}
use Rattle.rules.specs.Flags.{is_valid}
use Rattle.rules.specs.Job.{Job, reads}
use Rattle.rules.specs.Fold.{running, endorsed, flag}
use Rattle.rules.specs.Assignment.{endorsement_under, reads_under}
use Rattle.rules.specs.Sure.{Sure}
use Rattle.rules.proofs.Bridge.{valid, endorsement_under-endorsed, reads_under-valid}
use Rattle.key_chains.specs.declared.plain_board.Cells.{Cells}
use Rattle.key_chains.specs.Known.{Known, valid_in}
use Rattle.key_chains.specs.Cells.{no_cells, cells_at, known_of}
use Rattle.key_chains.specs.Shown.{ShowsBefore}

some_same : {X : Type 0} (o : Option X) (x y : X) → o ≡ Some x → o ≡ Some y → x ≡ y
some_same None x y e f = absurd cc
some_same (Some z) x y e f = cc

-- what is sure of a board that shows the fold is the fold's
pub shown_endorsed : (j : Job) (i : ℕ) (v : Bool) (old new : List Cells) → ShowsBefore j i (known_of old) → new ≡ old → Sure (endorsement_under j) (known_of new).endorsed i v → v ≡ endorsed j i
shown_endorsed j i v old new shows same sure =
    sym (sure (endorsed j) (λ h b lt known. some_same ((known_of old).endorsed h) (endorsed j h) b (shows.endorsed h lt) (ap (λ (cells : List Cells). (known_of cells).endorsed h) (sym same) ∙ known)))
    ∙ endorsement_under-endorsed j i

pub shown_reads : (j : Job) (i : ℕ) (v : ReadVerdict) (old new : List Cells) → ShowsBefore j i (known_of old) → new ≡ old → Sure (reads_under j) (valid_in (known_of new)) i v → v ≡ reads j i (running j i).state
shown_reads j i v old new shows same sure =
    sym (sure (valid j) (λ h b lt known. some_same (valid_in (known_of old) h) (is_valid (flag j h)) b (ap (option_map is_valid) (shows.flag h lt)) (ap (λ (cells : List Cells). valid_in (known_of cells) h) (sym same) ∙ known)))
    ∙ reads_under-valid j i

pub shows_nothing : (j : Job) (known : Known) → ShowsBefore j 0 known
shows_nothing j known = record { endorsed = λ h lt. absurd (omega arith); flag = λ h lt. absurd (omega arith) }

-- one candidate more
pub shows_more : (j : Job) (i : ℕ) (old : List Cells) (e : Bool) (f : Flag) → ShowsBefore j i (known_of old) → i < length old → e ≡ endorsed j i → f ≡ flag j i
    → ShowsBefore j (suc i) (known_of (slice_set old i (record { endorsed = Some e; flag = Some f })))
shows_more j i old e f shows lt is_e is_f = record { endorsed = λ h below. one h below (eqb_tells h i); flag = λ h below. two h below (eqb_tells h i) }
  where
    cells : Cells
    cells = record { endorsed = Some e; flag = Some f }

    here : (h : ℕ) → h ≡ i → cells_at (slice_set old i cells) h ≡ cells
    here h same = ap (λ (n : ℕ). cells_at (slice_set old i cells) n) same ∙ get_or-set_same old i cells no_cells lt

    there : (h : ℕ) → h ≢ i → cells_at (slice_set old i cells) h ≡ cells_at old h
    there h apart = get_or-set_other old i h cells no_cells apart

    one : (h : ℕ) → h < suc i → ((eqb h i ≡ true) × (h ≡ i)) ⊎ ((eqb h i ≡ false) × (h ≢ i)) → (cells_at (slice_set old i cells) h).endorsed ≡ Some (endorsed j h)
    one h below (inl p) = ap (λ (c : Cells). c.endorsed) (here h p.1) ∙ ap Some (is_e ∙ ap (endorsed j) (sym p.1))
    one h below (inr p) = ap (λ (c : Cells). c.endorsed) (there h p.1) ∙ shows.endorsed h (let apart = p.1 in omega (arith, apart))

    two : (h : ℕ) → h < suc i → ((eqb h i ≡ true) × (h ≡ i)) ⊎ ((eqb h i ≡ false) × (h ≢ i)) → (cells_at (slice_set old i cells) h).flag ≡ Some (flag j h)
    two h below (inl p) = ap (λ (c : Cells). c.flag) (here h p.1) ∙ ap Some (is_f ∙ ap (flag j) (sym p.1))
    two h below (inr p) = ap (λ (c : Cells). c.flag) (there h p.1) ∙ shows.flag h (let apart = p.1 in omega (arith, apart))

-- the same after a loop's step
pub next_shown : (j : Job) (i : ℕ) (old mid new : List Cells) (e : Bool) (f : Flag) → ShowsBefore j i (known_of old) → i < length old → e ≡ endorsed j i → f ≡ flag j i → mid ≡ old → new ≡ slice_set mid i (record { endorsed = Some e; flag = Some f })
    → ShowsBefore j (i + 1) (known_of new)
next_shown j i old mid new e f shows lt is_e is_f same is =
    let more : suc i ≡ i + 1 = omega arith in
    subst (λ (n : ℕ). ShowsBefore j n (known_of new)) more
    (subst (λ (cells : List Cells). ShowsBefore j (suc i) (known_of cells)) (sym (is ∙ ap (λ (cells : List Cells). slice_set cells i (record { endorsed = Some e; flag = Some f })) same)) (shows_more j i old e f shows lt is_e is_f))
