-- A block that is accepted after a chain, and what is hashed of it.
use Rattle.std.specs.Prelude.{ℕ, List, ◌++◌, Result, Ok}
use Rattle.block.specs.declared.block.Block.{Block}
use Rattle.channel.specs.Configuration.{Configuration}
use Rattle.rules.specs.declared.answer.Accepted.{Accepted}
use Rattle.rules.specs.declared.answer.Refused.{Refused}
use Rattle.rules.specs.CommitBytes.{BlockCommit, commit_bytes, commit_hash_before}
use Rattle.rules.specs.World.{World, empty_world, last_commit_hash}
use Rattle.rules.specs.Commit.{items_of, job_of, commit_by}
use Rattle.rules.specs.Step.{Step}
use Rattle.rules.specs.Chain.{Submission, Chain}

pub record AcceptedBlock : Type 0 where
  pub channel : Configuration
  -- what was submitted before it from the empty world on, the answers, and the world that this led to
  pub submissions : List Submission
  pub answers : List (Result Accepted Refused)
  pub before : World
  pub chain : Chain channel (empty_world channel.definitions) submissions answers before
  -- what was submitted then, and accepted
  pub submission : Submission
  pub answer : Accepted
  pub after : World
  pub step : Step channel submission.accepts before submission.bytes (Ok answer) after

-- the block that its bytes encode
abbrev pub block_of : AcceptedBlock → Block
block_of a = a.step.0

-- what it is and does
abbrev pub commit_of : AcceptedBlock → BlockCommit
commit_of a = commit_by (block_of a).version (job_of a.channel a.submission.accepts a.before (items_of (block_of a)))

-- the commit hash before it, and all that is hashed of it after that
abbrev pub hash_before : AcceptedBlock → List ℕ
hash_before a = commit_hash_before (last_commit_hash a.before)

abbrev pub hashed_of : AcceptedBlock → List ℕ
hashed_of a = hash_before a ++ commit_bytes (commit_of a)
