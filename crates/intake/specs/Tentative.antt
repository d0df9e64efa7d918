-- What the items of a block are if none of the ids that they use was used before, and once used ids are marked.
use Rattle.std.specs.Prelude.{◌≡◌, ℕ, ◌==◌, Bool, false, List, length, map, Option, if◌then◌else◌}
use Rattle.std.specs.List.{zip}
use Rattle.rules.specs.Candidate.{Candidate, flagged}
use Rattle.rules.specs.declared.early_flag.EarlyFlag.TheVariants.{DuplicateTxId}
use Rattle.candidates.specs.Seen.{seen}
use Rattle.intake.specs.declared.taking.Taken.{Taken}
use Rattle.intake.specs.Placed.{placed}

-- these are the ids that a block's places use, and these its candidates as if none of them were used
pub record AreTentative (taken : List Taken) (ids : List (Option (List ℕ))) (candidates : List Candidate) : Type 0 where
  pub are_ids : ids ≡ map (λ t. t.id) taken
  pub are_candidates : candidates ≡ map (λ t. seen (placed (length taken == 1) t false)) taken

-- if a mark states that its id is used, a candidate is flagged for that
abbrev pub mark : Candidate × Bool → Candidate
mark p = if p.1 then flagged DuplicateTxId else p.0

abbrev pub marked : List Candidate → List Bool → List Candidate
marked candidates used = map mark (zip candidates used)
