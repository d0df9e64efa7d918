-- What is known of a place of a block without the ledger.
use Rattle.std.specs.Prelude.{ℕ, List, Option, true, false}
use Rattle.transaction.specs.declared.item.Item.{Item}
use Rattle.policy_eval.specs.Accepts.{Accepts}
use Rattle.channel.specs.Configuration.{Configuration}
use Rattle.rules.specs.Candidate.{Candidate, candidate_of, used_id}
use Rattle.candidates.specs.Seen.{seen}
use Rattle.intake.specs.declared.taking.Taken.{Taken}

-- the id that it uses, and the candidate that it is if this id is new and its block has no other item
abbrev pub taken_of : Configuration → Accepts → Option Item → Option (List ℕ) × Candidate
taken_of channel accepts item = (used_id channel accepts item, candidate_of channel accepts true false item)

-- as the code has it
abbrev pub shown : Taken → Option (List ℕ) × Candidate
shown t = (t.id, seen t.candidate)
