-- The first board: what is known of flagged candidates.
use Rattle.std.proofs.Common.{◌≡◌, ◌≢◌, ◌⊎◌, inl, inr, ℕ, ◌<◌, ◌≤◌, ◌+◌, eqb, true, false, List, [], ◌∷◌, length, map, refl, sym, ap, ◌∙◌, arith}
use Rattle.std.specs.Prelude.{slice_set}
use Rattle.std.proofs.lemmas.Bool.Decides.{eqb_tells}
use Rattle.std.proofs.lemmas.List.{get_or-set_same, get_or-set_other, get_or-map, get_or_default, length-set, length-map, same_lists}
use Rattle.rules.specs.declared.early_flag.EarlyFlag.{EarlyFlag}
use Rattle.rules.specs.declared.early_flag.EarlyFlag.TheVariants.{BadPayload}
use Rattle.rules.specs.Candidate.{Candidate, flagged}
use Rattle.rules.specs.Job.{Job, candidate_at}
use Rattle.rules.specs.Machine.{first_endorsement, first_flag, first_board}
use Rattle.key_chains.specs.declared.plain_board.Cells.{Cells}
use Rattle.key_chains.specs.Job.{IsOpen}
use Rattle.key_chains.specs.Cells.{no_cells, cells_at}
use Rattle.dependency.specs.Rows.{board_of, first_cells}

first_endorsements : (cs : List Candidate) → map (λ (c : Cells). c.endorsed) (map first_cells cs) ≡ map first_endorsement cs
first_endorsements [] = refl
first_endorsements (c ∷ cs) = ap (λ rest. first_endorsement c ∷ rest) (first_endorsements cs)

first_flags : (cs : List Candidate) → map (λ (c : Cells). c.flag) (map first_cells cs) ≡ map first_flag cs
first_flags [] = refl
first_flags (c ∷ cs) = ap (λ rest. first_flag c ∷ rest) (first_flags cs)

pub first_rows : (j : Job) (cells : List Cells) → cells ≡ map first_cells j.candidates → board_of cells ≡ first_board j
first_rows j cells is = ap board_of is ∙ (λ k. record { endorsements = first_endorsements j.candidates k; flags = first_flags j.candidates k })

-- the candidates before i are on the board as they are at first, and nothing is known of the others
pub record Begun (j : Job) (i : ℕ) (cells : List Cells) : Type 0 where
  pub count : length cells ≡ length j.candidates
  pub taken : (k : ℕ) → k < i → cells_at cells k ≡ first_cells (candidate_at j k)
  pub left : (k : ℕ) → i ≤ k → cells_at cells k ≡ no_cells

begun-more : (j : Job) (i : ℕ) (old new : List Cells) → Begun j i old → length new ≡ length old → cells_at new i ≡ first_cells (candidate_at j i)
    → ((k : ℕ) → k ≢ i → cells_at new k ≡ cells_at old k) → Begun j (i + 1) new
begun-more j i old new begun same here others = record {
  count = same ∙ begun.count;
  taken = λ k lt. by k lt (eqb_tells k i);
  left = λ k le. others k (λ e. absurd (omega arith)) ∙ begun.left k (omega arith);
}
  where
    by : (k : ℕ) → k < i + 1 → ((eqb k i ≡ true) × (k ≡ i)) ⊎ ((eqb k i ≡ false) × (k ≢ i)) → cells_at new k ≡ first_cells (candidate_at j k)
    by k lt (inl d) = ap (cells_at new) d.1 ∙ here ∙ ap (λ n. first_cells (candidate_at j n)) (sym d.1)
    by k lt (inr d) = others k d.1 ∙ begun.taken k (let apart = d.1 in omega (arith, apart))

pub begun-flagged : (j : Job) (i : ℕ) (flag : EarlyFlag) (old mid new : List Cells) → Begun j i old → i < length j.candidates → candidate_at j i ≡ flagged flag
    → mid ≡ slice_set old i (first_cells (flagged flag)) → new ≡ mid → Begun j (i + 1) new
begun-flagged j i flag old mid new begun lt is set same =
    begun-more j i old new begun
    (ap (λ (cells : List Cells). length cells) (same ∙ set) ∙ length-set old i _)
    (ap (λ (cells : List Cells). cells_at cells i) (same ∙ set) ∙ get_or-set_same old i (first_cells (flagged flag)) no_cells (let count = begun.count in omega arith) ∙ ap first_cells (sym is))
    (λ k apart. ap (λ (cells : List Cells). cells_at cells k) (same ∙ set) ∙ get_or-set_other old i k (first_cells (flagged flag)) no_cells apart)

open_is_unknown : (j : Job) (i : ℕ) → IsOpen j i → first_cells (candidate_at j i) ≡ no_cells
open_is_unknown j i (inl tx) = ap first_cells tx.2
open_is_unknown j i (inr update) = ap first_cells update.2

pub begun-open : (j : Job) (i : ℕ) (old new : List Cells) → Begun j i old → IsOpen j i → new ≡ old → Begun j (i + 1) new
begun-open j i old new begun is same =
    begun-more j i old new begun
    (ap (λ (cells : List Cells). length cells) same)
    (ap (λ (cells : List Cells). cells_at cells i) same ∙ begun.left i (omega arith) ∙ sym (open_is_unknown j i is))
    (λ k apart. ap (λ (cells : List Cells). cells_at cells k) same)

pub begun-all : (j : Job) (n : ℕ) (cells : List Cells) → Begun j n cells → length j.candidates ≤ n → cells ≡ map first_cells j.candidates
begun-all j n cells begun all =
    same_lists cells (map first_cells j.candidates) (begun.count ∙ sym (length-map j.candidates first_cells))
    (λ k d lt. get_or_default cells k d no_cells lt ∙ begun.taken k (let count = begun.count in omega arith) ∙ sym (get_or-map first_cells j.candidates k (flagged BadPayload) d (let count = begun.count in omega arith)))
