-- What one string of bytes makes of a world, and what is answered.
use Rattle.std.specs.Prelude.{◌≡◌, ℕ, List, Result, Ok, Err}
use Rattle.block.specs.declared.block.Block.{Block}
use Rattle.block.specs.Grammar.{Spells}
use Rattle.channel.specs.Configuration.{Configuration}
use Rattle.header_hash.specs.Hashes.{header_hash_of}
use Rattle.policy_eval.specs.Accepts.{Accepts}
use Rattle.rules.specs.declared.answer.Accepted.{Accepted}
use Rattle.rules.specs.declared.answer.Refused.{Refused}
use Rattle.rules.specs.World.{World, last_commit_hash}
use Rattle.rules.specs.Linked.{IsLinked, IsRefused}
use Rattle.rules.specs.Commit.{items_of, job_of, commit_hash_in, world_after}
use Rattle.rules.specs.Fold.{flags}

-- what is answered to a linked block
abbrev pub accepted_of : Configuration → Accepts → World → Block → Accepted
accepted_of channel accepts w b = record {
  number = b.header.number;
  header_hash = header_hash_of b.header;
  commit_hash = commit_hash_in (last_commit_hash w) b.version (job_of channel accepts w (items_of b));
  flags = flags (job_of channel accepts w (items_of b));
}

-- Bytes that spell a linked block are accepted, other bytes are refused for the first reason that holds. To either, want
-- of memory may be answered in its place. A refusal changes nothing.
abbrev pub Step : Configuration → Accepts → World → List ℕ → Result Accepted Refused → World → Type 0
Step channel accepts old bytes (Ok accepted) new =
    (b : Block) × Spells bytes b × IsLinked old b × (accepted ≡ accepted_of channel accepts old b) × (new ≡ world_after channel accepts old bytes b)
Step channel accepts old bytes (Err refused) new = IsRefused old bytes refused × (new ≡ old)
