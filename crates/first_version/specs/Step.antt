-- The world after one byte string, and the answer.
use Rattle.std.specs.Prelude.{◌≡◌, ℕ, List, Result, Ok, Err}
use Rattle.block.specs.first_version.Grammar.{Block, Spells}
use Rattle.first_version.specs.Configuration.{Configuration}
use Rattle.header_hash.specs.Hashes.{header_hash_of}
use Rattle.policy_eval.specs.Accepts.{Accepts}
use Rattle.first_version.specs.Answer.{Accepted}
use Rattle.rules.specs.declared.answer.Refused.{Refused}
use Rattle.first_version.specs.World.{World}
use Rattle.first_version.specs.Linked.{IsLinked, IsRefused}
use Rattle.first_version.specs.Commit.{txs_of, job_of, world_after}
use Rattle.first_version.specs.Fold.{flags}

-- the answer to a linked block
abbrev pub accepted_of : Configuration → Accepts → World → Block → Accepted
accepted_of channel accepts w b = record {
  number = b.header.number;
  header_hash = header_hash_of b.header;
  flags = flags (job_of channel accepts w (txs_of b));
}

-- Bytes that encode a linked block are accepted, other bytes are rejected for the first reason that holds. Either
-- answer may be replaced by out of memory. A rejection changes nothing.
abbrev pub Step : Configuration → Accepts → World → List ℕ → Result Accepted Refused → World → Type 0
Step channel accepts old bytes (Ok accepted) new =
    (b : Block) × Spells bytes b × IsLinked old b × (accepted ≡ accepted_of channel accepts old b) × (new ≡ world_after channel accepts old bytes b)
Step channel accepts old bytes (Err refused) new = IsRefused old bytes refused × (new ≡ old)
