-- The machine that finds the verdicts of a job in any order.
use Rattle.std.specs.Prelude.{◌≡◌, ℕ, ◌<◌, List, [], ◌∷◌, ◌++◌, length, map, Bool, true, false, Option, Some, None, option_map, ◌⊎◌, slice_index_or, slice_set}
use Rattle.std.specs.List.{range_with_len}
use Rattle.rules.specs.declared.flag.Flag.{Flag}
use Rattle.rules.specs.declared.read_verdict.ReadVerdict.{ReadVerdict}
use Rattle.rules.specs.declared.read_verdict.ReadVerdict.TheVariants.{Good}
use Rattle.rules.specs.declared.event.Event.{Event}
use Rattle.rules.specs.declared.event.Event.TheVariants.{Endorse, Reads}
use Rattle.rules.specs.Flags.{is_valid, flag_of}
use Rattle.rules.specs.Candidate.{Candidate, flagged, opened, updates}
use Rattle.rules.specs.Job.{Job, candidate_at, flag_by}
use Rattle.rules.specs.Fold.{endorsed, flag}
use Rattle.rules.specs.Assignment.{endorsement_under, reads_under}
use Rattle.rules.specs.Depends.{EndorsementDepends, ReadsDepend}
use Rattle.rules.specs.Sure.{Sure}

-- two rows of cells, each unknown or known
pub record Board : Type 0 where
  pub endorsements : List (Option Bool)
  pub flags : List (Option Flag)

abbrev pub known : {X : Type 0} → List (Option X) → ℕ → Option X
known cells i = slice_index_or cells i None

-- a known flag counts as yes exactly where it is valid
abbrev pub known_valid : Board → ℕ → Option Bool
known_valid b h = option_map is_valid (known b.flags h)

abbrev pub first_endorsement : Candidate → Option Bool
first_endorsement (flagged flag) = Some false
first_endorsement (opened tx signers) = None
first_endorsement (updates u signers) = None

abbrev pub first_flag : Candidate → Option Flag
first_flag (flagged flag) = Some (flag_of flag)
first_flag (opened tx signers) = None
first_flag (updates u signers) = None

-- at first the cells of flagged candidates are known
abbrev pub first_board : Job → Board
first_board j = record { endorsements = map first_endorsement j.candidates; flags = map first_flag j.candidates }

abbrev pub SureEndorsement : Job → Board → ℕ → Bool → Type 0
SureEndorsement j b i v = Sure (endorsement_under j) (known b.endorsements) i v

abbrev pub SureReads : Job → Board → ℕ → ReadVerdict → Type 0
SureReads j b i v = Sure (reads_under j) (known_valid b) i v

-- the cell becomes known with this value
abbrev pub SetsEndorsement : Board → ℕ → Bool → Board → Type 0
SetsEndorsement old i v new = new ≡ record old { endorsements = slice_set old.endorsements i (Some v) }

abbrev pub SetsFlag : Board → ℕ → Flag → Board → Type 0
SetsFlag old i v new = new ≡ record old { flags = slice_set old.flags i (Some v) }

-- something that the verdict depends on is unknown
abbrev pub WaitsForEndorsement : Job → Board → ℕ → Type 0
WaitsForEndorsement j b i = (h : ℕ) × EndorsementDepends j i h × (known b.endorsements h ≡ None)

abbrev pub WaitsForFlag : Job → Board → ℕ → Type 0
WaitsForFlag j b i = (h : ℕ) × ReadsDepend j i h × (known b.flags h ≡ None)

-- An endorsement check: a known cell stays. An unknown one is set to a verdict that is sure; it may stay unknown as long as
-- something that it depends on is unknown.
abbrev pub EndorseStep : Job → ℕ → Option Bool → Board → Board → Type 0
EndorseStep j i (Some v) old new = new ≡ old
EndorseStep j i None old new =
    ((v : Bool) × SureEndorsement j old i v × SetsEndorsement old i v new)
    ⊎ (WaitsForEndorsement j old i × (new ≡ old))

-- A read check, by the flag's cell and the endorsement's: it needs the endorsement, and where that is no it asks for
-- nothing else.
abbrev pub ReadsStep : Job → ℕ → Option Flag → Option Bool → Board → Board → Type 0
ReadsStep j i (Some f) e old new = new ≡ old
ReadsStep j i None None old new = new ≡ old
ReadsStep j i None (Some false) old new = SetsFlag old i (flag_by (candidate_at j i) false Good) new
ReadsStep j i None (Some true) old new =
    ((v : ReadVerdict) × SureReads j old i v × SetsFlag old i (flag_by (candidate_at j i) true v) new)
    ⊎ (WaitsForFlag j old i × (new ≡ old))

-- a number out of range changes nothing
abbrev pub MachineStep : Job → Event → Board → Board → Type 0
MachineStep j (Endorse i) old new =
    ((i < length j.candidates) × EndorseStep j i (known old.endorsements i) old new) ⊎ (¬ (i < length j.candidates) × (new ≡ old))
MachineStep j (Reads i) old new =
    ((i < length j.candidates) × ReadsStep j i (known old.flags i) (known old.endorsements i) old new) ⊎ (¬ (i < length j.candidates) × (new ≡ old))

abbrev pub Run : Job → Board → List Event → Board → Type 0
Run j old [] new = new ≡ old
Run j old (e ∷ es) new = (mid : Board) × MachineStep j e old mid × Run j mid es new

-- each known cell is the fold's verdict
pub record ShowsFold (j : Job) (b : Board) : Type 0 where
  pub endorsements : (i : ℕ) (v : Bool) → known b.endorsements i ≡ Some v → v ≡ endorsed j i
  pub flags : (i : ℕ) (f : Flag) → known b.flags i ≡ Some f → f ≡ flag j i

-- every cell is known, as the fold's verdict
abbrev pub full_board : Job → Board
full_board j = record {
  endorsements = map (λ i. Some (endorsed j i)) (range_with_len 0 (length j.candidates));
  flags = map (λ i. Some (flag j i)) (range_with_len 0 (length j.candidates));
}

-- all endorsement checks and then all read checks, each in the order of the candidates
abbrev pub checks_in_order : Job → List Event
checks_in_order j = map Endorse (range_with_len 0 (length j.candidates)) ++ map Reads (range_with_len 0 (length j.candidates))
