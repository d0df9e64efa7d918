-- What the first version returns for byte strings that today's ledger accepted or rejected.
use Rattle.std.specs.Prelude.{ℕ, List, [], ◌∷◌, take, Bool, if◌then◌else◌, Result, Err}
use Rattle.std.specs.Str.{bytes_eq}
use Rattle.transaction.specs.declared.block_version.BlockVersion.TheVariants.{V2}
use Rattle.block.specs.Grammar.{magic_of}
use Rattle.block.specs.declared.fault.BlockFault.TheVariants.{BadMagic}
use Rattle.rules.specs.declared.answer.Accepted as now
use Rattle.rules.specs.declared.answer.Refused.{Refused}
use Rattle.rules.specs.declared.answer.Refused.TheVariants.{Malformed}
use Rattle.rules.specs.Chain.{Submission}
use Rattle.first_version.specs.Answer.{Accepted}
use Rattle.first_version.specs.Seen.{seen_answer}

-- the bytes begin with the magic of version 2
abbrev pub is_second : List ℕ → Bool
is_second bytes = bytes_eq (take 4 bytes) (magic_of V2)

-- Bytes that begin with the magic of version 2 are rejected for it; to others the answer is the same.
abbrev pub answer_then : List ℕ → Result now.Accepted Refused → Result Accepted Refused
answer_then bytes answer = if is_second bytes then Err (Malformed BadMagic) else seen_answer answer

-- of each submission, in order
abbrev pub answers_then : List Submission → List (Result now.Accepted Refused) → List (Result Accepted Refused)
answers_then [] answers = []
answers_then (s ∷ submissions) [] = []
answers_then (s ∷ submissions) (answer ∷ answers) = answer_then s.bytes answer ∷ answers_then submissions answers
