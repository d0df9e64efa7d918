-- A check on a plain board is a step of the machine on its rows.
use Rattle.std.proofs.Common.{◌≡◌, ℕ, ◌<◌, Bool, true, false, List, length, Option, Some, None, inl, inr, refl, sym, ap, subst, ◌∙◌}
use Rattle.std.specs.Prelude.{is_some, option_map, slice_set}
use Rattle.std.proofs.Math.ListN.{get_or-map}
use Rattle.std.proofs.Math.Seq.{map-set_same}
use Rattle.std.proofs.lemmas.List.{map-set}
use Rattle.rules.specs.declared.flag.Flag.{Flag}
use Rattle.rules.specs.declared.read_verdict.ReadVerdict.{ReadVerdict}
use Rattle.rules.specs.declared.read_verdict.ReadVerdict.TheVariants.{Good}
use Rattle.rules.specs.declared.event.Event.TheVariants.{Endorse, Reads}
use Rattle.rules.specs.Flags.{is_valid}
use Rattle.rules.specs.Candidate.{Candidate, flagged, opened}
use Rattle.rules.specs.Job.{Job, candidate_at, read_flag, flag_by}
use Rattle.rules.specs.Assignment.{endorsement_under, reads_under}
use Rattle.rules.specs.Depends.{EndorsementDepends, ReadsDepend}
use Rattle.rules.specs.Sure.{Sure}
use Rattle.rules.specs.Machine.{Board, known, known_valid, SetsEndorsement, SetsFlag, EndorseStep, ReadsStep, MachineStep}
use Rattle.key_chains.specs.declared.plain_board.Cells.{Cells}
use Rattle.key_chains.specs.Known.{valid_in}
use Rattle.key_chains.specs.Cells.{no_cells, cells_at, known_of}
use Rattle.dependency.specs.Rows.{board_of}

pub unknown : {X : Type 0} (o : Option X) → is_some o ≡ false → o ≡ None
unknown None none = refl
unknown (Some x) none = absurd cc

-- ---- the rows and the cells agree

pub endorsements_row : (cells : List Cells) (i : ℕ) → known (board_of cells).endorsements i ≡ (known_of cells).endorsed i
endorsements_row cells i = get_or-map (λ (c : Cells). c.endorsed) cells i no_cells

pub flags_row : (cells : List Cells) (i : ℕ) → known (board_of cells).flags i ≡ (known_of cells).flag i
flags_row cells i = get_or-map (λ (c : Cells). c.flag) cells i no_cells

pub endorsement_is_set : (cells new : List Cells) (i : ℕ) (v : Bool) (f : Option Flag) → f ≡ (cells_at cells i).flag → new ≡ slice_set cells i (record { endorsed = Some v; flag = f })
    → SetsEndorsement (board_of cells) i v (board_of new)
endorsement_is_set cells new i v f same is =
    ap board_of is ∙ (λ k. record {
      endorsements = map-set (λ (c : Cells). c.endorsed) cells i (record { endorsed = Some v; flag = f }) k;
      flags = map-set_same (λ (c : Cells). c.flag) cells i (record { endorsed = Some v; flag = f }) no_cells same k;
    })

pub flag_is_set : (cells new : List Cells) (i : ℕ) (e : Option Bool) (f : Flag) → e ≡ (cells_at cells i).endorsed → new ≡ slice_set cells i (record { endorsed = e; flag = Some f })
    → SetsFlag (board_of cells) i f (board_of new)
flag_is_set cells new i e f same is =
    ap board_of is ∙ (λ k. record {
      endorsements = map-set_same (λ (c : Cells). c.endorsed) cells i (record { endorsed = e; flag = Some f }) no_cells same k;
      flags = map-set (λ (c : Cells). c.flag) cells i (record { endorsed = e; flag = Some f }) k;
    })

sure_of_endorsements : (j : Job) (cells : List Cells) (i : ℕ) (v : Bool) → Sure (endorsement_under j) (known_of cells).endorsed i v → Sure (endorsement_under j) (known (board_of cells).endorsements) i v
sure_of_endorsements j cells i v sure called agrees = sure called (λ h b lt is. agrees h b lt (endorsements_row cells h ∙ is))

sure_of_flags : (j : Job) (cells : List Cells) (i : ℕ) (v : ReadVerdict) → Sure (reads_under j) (valid_in (known_of cells)) i v → Sure (reads_under j) (known_valid (board_of cells)) i v
sure_of_flags j cells i v sure called agrees = sure called (λ h b lt is. agrees h b lt (ap (option_map is_valid) (flags_row cells h) ∙ is))

-- ---- endorsement checks

pub endorse_stays : (j : Job) (i : ℕ) (old : List Cells) (is : is_some (cells_at old i).endorsed ≡ true) → i < length j.candidates → MachineStep j (Endorse i) (board_of old) (board_of old)
endorse_stays j i old is lt = inl (lt, by (known (board_of old).endorsements i) (ap is_some (endorsements_row old i) ∙ is))
  where
    by : (cell : Option Bool) → is_some cell ≡ true → EndorseStep j i cell (board_of old) (board_of old)
    by None some = absurd cc
    by (Some v) some = refl

pub endorse_decides : (j : Job) (i : ℕ) (old mid : List Cells) (new : Board) (v : Bool) → i < length j.candidates → is_some (cells_at old i).endorsed ≡ false → mid ≡ old
    → Sure (endorsement_under j) (known_of mid).endorsed i v → SetsEndorsement (board_of mid) i v new → MachineStep j (Endorse i) (board_of old) new
endorse_decides j i old mid new v lt none same sure sets =
    inl (
      lt,
      subst (λ (cell : Option Bool). EndorseStep j i cell (board_of old) new) (sym (endorsements_row old i ∙ unknown _ none))
          (inl (v, sure_of_endorsements j old i v (subst (λ (cells : List Cells). Sure (endorsement_under j) (known_of cells).endorsed i v) same sure), subst (λ (cells : List Cells). SetsEndorsement (board_of cells) i v new) same sets)),
    )

pub endorse_waits : (j : Job) (i : ℕ) (old new : List Cells) (h : ℕ) → i < length j.candidates → is_some (cells_at old i).endorsed ≡ false → new ≡ old
    → EndorsementDepends j i h × ((known_of new).endorsed h ≡ None) → MachineStep j (Endorse i) (board_of old) (board_of new)
endorse_waits j i old new h lt none same waits =
    inl (
      lt,
      subst (λ (cell : Option Bool). EndorseStep j i cell (board_of old) (board_of new)) (sym (endorsements_row old i ∙ unknown _ none))
          (inr ((h, waits.0, endorsements_row old h ∙ ap (λ (cells : List Cells). (known_of cells).endorsed h) (sym same) ∙ waits.1), ap board_of same)),
    )

-- ---- read checks

pub reads_stay : (j : Job) (i : ℕ) (old : List Cells) (is : is_some (cells_at old i).flag ≡ true) → i < length j.candidates → MachineStep j (Reads i) (board_of old) (board_of old)
reads_stay j i old is lt = inl (lt, by (known (board_of old).flags i) (ap is_some (flags_row old i) ∙ is))
  where
    by : (cell : Option Flag) → is_some cell ≡ true → ReadsStep j i cell (known (board_of old).endorsements i) (board_of old) (board_of old)
    by None some = absurd cc
    by (Some v) some = refl

-- if the flag is unknown and the endorsement's cell is e
by_reads_step : (j : Job) (i : ℕ) (old : List Cells) (new : Board) (e : Option Bool) → i < length j.candidates → is_some (cells_at old i).flag ≡ false → (cells_at old i).endorsed ≡ e
    → ReadsStep j i None e (board_of old) new → MachineStep j (Reads i) (board_of old) new
by_reads_step j i old new e lt none endorsed step =
    inl (
      lt,
      subst (λ (cell : Option Flag). ReadsStep j i cell (known (board_of old).endorsements i) (board_of old) new) (sym (flags_row old i ∙ unknown _ none))
          (subst (λ (cell : Option Bool). ReadsStep j i None cell (board_of old) new) (sym (endorsements_row old i ∙ endorsed)) step),
    )

pub reads_come_too_early : (j : Job) (i : ℕ) (old : List Cells) → i < length j.candidates → is_some (cells_at old i).flag ≡ false → (cells_at old i).endorsed ≡ None → MachineStep j (Reads i) (board_of old) (board_of old)
reads_come_too_early j i old lt none endorsed = by_reads_step j i old (board_of old) None lt none endorsed refl

pub reads_decide : (j : Job) (i : ℕ) (old mid : List Cells) (new : Board) (v : ReadVerdict) (f : Flag) → i < length j.candidates → is_some (cells_at old i).flag ≡ false → (cells_at old i).endorsed ≡ Some true
    → mid ≡ old → Sure (reads_under j) (valid_in (known_of mid)) i v → f ≡ flag_by (candidate_at j i) true v → SetsFlag (board_of mid) i f new → MachineStep j (Reads i) (board_of old) new
reads_decide j i old mid new v f lt none endorsed same sure is sets =
    by_reads_step j i old new (Some true) lt none endorsed
    (inl (
      v,
      sure_of_flags j old i v (subst (λ (cells : List Cells). Sure (reads_under j) (valid_in (known_of cells)) i v) same sure),
      subst (λ (g : Flag). SetsFlag (board_of old) i g new) is
          (subst (λ (cells : List Cells). SetsFlag (board_of cells) i f new) same sets),
    ))

pub reads_wait : (j : Job) (i : ℕ) (old new : List Cells) (h : ℕ) → i < length j.candidates → is_some (cells_at old i).flag ≡ false → (cells_at old i).endorsed ≡ Some true → new ≡ old
    → ReadsDepend j i h × ((known_of new).flag h ≡ None) → MachineStep j (Reads i) (board_of old) (board_of new)
reads_wait j i old new h lt none endorsed same waits =
    by_reads_step j i old (board_of new) (Some true) lt none endorsed
    (inr ((h, waits.0, flags_row old h ∙ ap (λ (cells : List Cells). (known_of cells).flag h) (sym same) ∙ waits.1), ap board_of same))
