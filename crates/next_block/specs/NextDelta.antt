-- The delta of the next block of a world.
use Rattle.std.specs.Prelude.{◌≡◌, ℕ, List, map, Option}
use Rattle.block.specs.declared.block.Block.{Block}
use Rattle.block.specs.Grammar.{Spells}
use Rattle.channel.specs.Configuration.{Configuration}
use Rattle.intake.specs.declared.taking.Taken.{Taken}
use Rattle.intake.specs.Place.{taken_of, shown}
use Rattle.policy_eval.specs.Accepts.{Accepts}
use Rattle.transaction.specs.declared.item.Item.{Item}
use Rattle.rules.specs.declared.answer.Accepted.{Accepted}
use Rattle.rules.specs.declared.delta.Delta.{Delta}
use Rattle.rules.specs.Candidate.{Candidate, used_id}
use Rattle.rules.specs.Job.{Job}
use Rattle.rules.specs.World.{World, height_of, last_commit_hash}
use Rattle.rules.specs.Names.{HasNamesOf}
use Rattle.rules.specs.Linked.{IsLinked}
use Rattle.rules.specs.Commit.{items_of, job_of, committed_of}
use Rattle.rules.specs.Delta.{AreRealChanges, IsDelta, changes_in}

-- The bytes spell a block that is the next one, and what the delta makes of the world is what that block makes of it. Of the state it
-- lists no more than it must: one change of a key, in the keys' order, and none that removes a key without a row.
pub record IsNextDelta (channel : Configuration) (accepts : Accepts) (w : World) (bytes : List ℕ) (d : Delta) : Type 0 where
  pub block : Block
  pub spelled : Spells bytes block
  pub linked : IsLinked w block
  pub delta : IsDelta channel accepts w (items_of block) (committed_of bytes (last_commit_hash w) block (job_of channel accepts w (items_of block))) d
  pub changes : AreRealChanges w.state (changes_in d.changes)

-- these candidates over a world
abbrev pub job_over : Configuration → World → List Candidate → Job
job_over channel w candidates = record { number = height_of w; state = w.state; definitions = w.definitions; admin = channel.admin; candidates = candidates }

-- Whatever the verifier and the items of which this was taken in, the job is theirs where the world has the names of the
-- channel, and the ids are theirs.
abbrev pub IsJobOfTaken : Configuration → World → List Taken → Job → Type 0
IsJobOfTaken channel w taken j =
    HasNamesOf channel w → (accepts : Accepts) (items : List (Option Item)) → map shown taken ≡ map (taken_of channel accepts) items
    → j ≡ job_of channel accepts w items

abbrev pub AreIdsOfTaken : Configuration → List Taken → List (Option (List ℕ)) → Type 0
AreIdsOfTaken channel taken ids =
    (accepts : Accepts) (items : List (Option Item)) → map shown taken ≡ map (taken_of channel accepts) items
    → ids ≡ map (used_id channel accepts) items

-- Where the job and the ids are this block's over some world, by some channel and verifier, and this is the world's last commit
-- hash, this is the block's delta there, and keeps these bytes. A step to `IsNextDelta`.
abbrev pub IsDeltaOfJob : Job → List (Option (List ℕ)) → Option (List ℕ) → List ℕ → Block → Delta → Type 0
IsDeltaOfJob j ids last bytes b d =
    (channel : Configuration) (accepts : Accepts) (w : World) → j ≡ job_of channel accepts w (items_of b)
    → ids ≡ map (used_id channel accepts) (items_of b) → last ≡ last_commit_hash w
    → IsDelta channel accepts w (items_of b) (committed_of bytes (last_commit_hash w) b (job_of channel accepts w (items_of b))) d
    × AreRealChanges w.state (changes_in d.changes)

-- what is answered to the block of this delta
abbrev pub answer_to : World → Delta → Accepted
answer_to w d = record { number = height_of w; header_hash = d.block.header_hash; commit_hash = d.block.commit_hash; flags = d.block.flags }
