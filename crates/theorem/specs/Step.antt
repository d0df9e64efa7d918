-- One byte string: what a ledger returns for it, and the ledger after it.
use Rattle.std.specs.Prelude.{◌≡◌, ℕ, List, [], ◌∷◌, ◌++◌, Result, Ok, Err}
use Rattle.block.specs.declared.block.Block.{Block}
use Rattle.block.specs.Grammar.{Spells}
use Rattle.channel.specs.Configuration.{Configuration}
use Rattle.header_hash.specs.Hashes.{header_hash_of, commit_hash_of}
use Rattle.policy_eval.specs.Accepts.{Accepts}
use Rattle.rules.specs.declared.answer.Accepted.{Accepted}
use Rattle.rules.specs.declared.answer.Refused.{Refused}
use Rattle.rules.specs.CommitBytes.{BlockCommit, commit_bytes, commit_hash_before}
use Rattle.rules.specs.World.{World, height_of, last_commit_hash}
use Rattle.rules.specs.Linked.{IsLinked, IsRefused}
use Rattle.rules.specs.Chain.{Submission}
use Rattle.theorem.specs.Serial.{SoFar, after_block}
use Rattle.theorem.specs.InTurn.{InTurn}

-- What the commit hash covers of a block: its version, number and flags, the rows that differ before and after it, and
-- the policy of a chaincode that it replaces. It doesn't cover histories, first uses of ids and the block's bytes.
abbrev pub commit_in : World → Block → SoFar → BlockCommit
commit_in w b end = record { version = b.version; number = height_of w; flags = end.flags; before = w.state; after = end.state; definition = end.replaced }

-- SHA-256 of the commit hash before it (32 zeros before block 0) and of these bytes
abbrev pub commit_hash_in : World → Block → SoFar → List ℕ
commit_hash_in w b end = commit_hash_of (commit_hash_before (last_commit_hash w)) (commit_bytes (commit_in w b end))

-- what is returned for a linked block
abbrev pub answer_to : Configuration → Accepts → World → Block → Accepted
answer_to channel accepts w b =
    let end = after_block channel accepts w b in
    record { number = b.header.number; header_hash = header_hash_of b.header; commit_hash = commit_hash_in w b end; flags = end.flags }

-- the ledger after a linked block, which is kept with its bytes
abbrev pub ledger_after : Configuration → Accepts → World → List ℕ → Block → World
ledger_after channel accepts w bytes b =
    let end = after_block channel accepts w b in
    record {
      state = end.state;
      history = end.history;
      first_uses = end.first_uses;
      definitions = end.policies;
      blocks = w.blocks ++ record { bytes = bytes; header_hash = header_hash_of b.header; commit_hash = commit_hash_in w b end; version = b.version; flags = end.flags } ∷ [];
    }

-- If bytes are accepted, they encode a block that is linked to the ledger, and the whole block is executed. If they are
-- refused, nothing changes, and the reason is the first that holds; or it is out of memory, which may come instead of
-- any answer.
abbrev pub Takes : Configuration → Accepts → World → List ℕ → Result Accepted Refused → World → Type 0
Takes channel accepts old bytes (Ok answer) new =
    (b : Block) × Spells bytes b × IsLinked old b × (answer ≡ answer_to channel accepts old b) × (new ≡ ledger_after channel accepts old bytes b)
Takes channel accepts old bytes (Err refused) new = IsRefused old bytes refused × (new ≡ old)

-- byte strings one after the other, each with a verifier
abbrev pub TakesAll : Configuration → World → List Submission → List (Result Accepted Refused) → World → Type 0
TakesAll channel = InTurn (λ old s answer new. Takes channel s.accepts old s.bytes answer new)
