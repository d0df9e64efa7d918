-- What is known of verdicts.
use Rattle.std.specs.Prelude.{◌≡◌, ℕ, ◌<◌, List, length, Some}
use Rattle.rules.specs.Job.{Job}
use Rattle.rules.specs.Fold.{endorsed, flag}
use Rattle.key_chains.specs.declared.plain_board.Cells.{Cells}
use Rattle.key_chains.specs.Known.{Known}
use Rattle.key_chains.specs.Cells.{known_of}

-- the verdicts of the candidates before i are known, as the fold's
pub record ShowsBefore (j : Job) (i : ℕ) (known : Known) : Type 0 where
  pub endorsed : (h : ℕ) → h < i → known.endorsed h ≡ Some (endorsed j h)
  pub flag : (h : ℕ) → h < i → known.flag h ≡ Some (flag j h)

-- a board of a job's candidates on which all verdicts are known
pub record Shows (j : Job) (cells : List Cells) : Type 0 where
  pub count : length cells ≡ length j.candidates
  pub verdicts : ShowsBefore j (length j.candidates) (known_of cells)
