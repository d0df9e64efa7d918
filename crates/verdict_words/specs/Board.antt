-- What words show of the verdict machine.
use Rattle.std.specs.Prelude.{◌≡◌, ℕ, List, length, map, Some}
use Rattle.std.specs.Option.{option_or}
use Rattle.std.specs.List.{range_with_len}
use Rattle.rules.specs.Job.{Job, candidate_at}
use Rattle.rules.specs.Machine.{Board, first_endorsement, first_flag, first_board, ShowsFold, known}
use Rattle.verdict_words.specs.Cells.{known_in}

-- The verdicts that these words show as a board of the machine. Those of flagged candidates are known from the start.
abbrev pub board_in : Job → List ℕ → Board
board_in j words = record {
  endorsements = map (λ i. option_or (first_endorsement (candidate_at j i)) ((known_in words).endorsed i)) (range_with_len 0 (length j.candidates));
  flags = map (λ i. option_or (first_flag (candidate_at j i)) ((known_in words).flag i)) (range_with_len 0 (length j.candidates));
}

-- A board that the machine may have: a cell for each candidate in each row, those of flagged candidates known, and each known one
-- the fold's verdict.
pub record IsSound (j : Job) (b : Board) : Type 0 where
  pub endorsements : length b.endorsements ≡ length j.candidates
  pub flags : length b.flags ≡ length j.candidates
  pub first_endorsements : (i : ℕ) (v : _) → known (first_board j).endorsements i ≡ Some v → known b.endorsements i ≡ Some v
  pub first_flags : (i : ℕ) (f : _) → known (first_board j).flags i ≡ Some f → known b.flags i ≡ Some f
  pub fold : ShowsFold j b
