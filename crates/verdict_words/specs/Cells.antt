-- Verdicts as words, one for each task: 2 i for the endorsement of candidate i, 2 i + 1 for its flag.
use Rattle.std.specs.Prelude.{◌≡◌, ◌≢◌, ℕ, zero, suc, ◌+◌, ◌*◌, ◌/◌, ◌%◌, ◌==◌, ◌⊎◌, Bool, true, false, if◌then◌else◌, List, slice_index, Option, Some, None}
use Rattle.rules.specs.declared.flag.Flag.{Flag}
use Rattle.rules.specs.Flags.{number_of, flag_numbered}
use Rattle.rules.specs.Job.{Job}
use Rattle.rules.specs.Fold.{endorsed, flag}
use Rattle.key_chains.specs.Known.{Known}

-- 0 is an unknown verdict. Of an endorsement 1 is no and 2 is yes; the word of a flag is its number and 1. Other words aren't met:
-- they show yes, and no flag.

abbrev pub endorsed_word : Bool → ℕ
endorsed_word false = 1
endorsed_word true = 2

abbrev pub endorsed_in : ℕ → Option Bool
endorsed_in zero = None
endorsed_in (suc zero) = Some false
endorsed_in (suc (suc n)) = Some true

abbrev pub flag_word : Flag → ℕ
flag_word f = suc (number_of f)

abbrev pub flag_in : ℕ → Option Flag
flag_in zero = None
flag_in (suc n) = flag_numbered n

-- the word of the fold's verdict
unfoldable pub verdict_word : Job → ℕ → ℕ
verdict_word j task = if task % 2 == 0 then endorsed_word (endorsed j (task / 2)) else flag_word (flag j (task / 2))

-- the verdicts that these words show
abbrev pub known_in : List ℕ → Known
known_in words = record { endorsed = λ i. endorsed_in (slice_index words (2 * i)); flag = λ i. flag_in (slice_index words (2 * i + 1)) }

abbrev pub IsKnown : List ℕ → ℕ → Type 0
IsKnown words task = slice_index words task ≢ 0

-- each of these words is unknown, or what is given for its task
abbrev pub Within : List ℕ → (ℕ → ℕ) → Type 0
Within words given = (task : ℕ) → (slice_index words task ≡ 0) ⊎ (slice_index words task ≡ given task)
