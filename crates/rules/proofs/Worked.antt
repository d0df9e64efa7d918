-- Worked rows of the step: blocks 0 and 1 of a chain, and what isn't the next block.
use Rattle.std.proofs.Common.{◌≡◌, ℕ, List, [], ◌∷◌, ◌++◌, ◌≤◌, length, Ok, Err, Option, None, refl, sym, ap, ◌∙◌, arith}
use Rattle.std.specs.Prelude.{replicate}
use Rattle.std.specs.FinMap.{empty}
use Rattle.block.specs.declared.block.Block.{Block}
use Rattle.block.specs.declared.block.Header.{Header}
use Rattle.block.specs.declared.block.Previous.{Previous}
use Rattle.block.specs.declared.block.Previous.TheVariants.{Empty, Hash}
use Rattle.transaction.specs.declared.item.Item.{Item}
use Rattle.block.specs.Grammar.{bytes_of, Spells}
use Rattle.transaction.specs.declared.block_version.BlockVersion.TheVariants.{V1}
use Rattle.transaction.specs.Reading.{name_at, body_at, tx_at, whole_tx_at}
use Rattle.header_hash.specs.Hashes.{header_hash_of, data_hash_of, commit_hash_of}
use Rattle.policy_eval.specs.Accepts.{Accepts}
use Rattle.policy.specs.Policies.{Policies}
use Rattle.channel.specs.Configuration.{Configuration}
use Rattle.rules.specs.declared.answer.Refused.TheVariants.{WrongNumber, WrongPrevious, WrongDataHash}
use Rattle.rules.specs.declared.flag.Flag.TheVariants.{BadPayload}
use Rattle.rules.specs.World.{World, empty_world}
use Rattle.rules.specs.History.{with_entries}
use Rattle.rules.specs.FirstUses.{with_uses}
use Rattle.rules.specs.Definitions.{with_definitions}
use Rattle.rules.specs.Fold.{running, entries_to, definitions_to, flags}
use Rattle.rules.specs.CommitBytes.{commit_bytes}
use Rattle.rules.specs.Commit.{items_of, job_of, commit_hash_in, committed_of, committed}
use Rattle.rules.specs.Step.{Step}

-- block 0 with the transactions `a` and none, and blocks without any
abbrev txs_0 : List (List ℕ)
txs_0 = (97 ∷ []) ∷ [] ∷ []

abbrev block_0 : Block
block_0 = record { version = V1; header = record { number = 0; previous = Empty; data_hash = data_hash_of txs_0 }; txs = txs_0 }

abbrev hash_0 : List ℕ
hash_0 = header_hash_of block_0.header

abbrev empty_block : ℕ → Previous → Block
empty_block n previous = record { version = V1; header = record { number = n; previous = previous; data_hash = data_hash_of [] }; txs = [] }

-- with the data hash of block 0
abbrev wrong_block : ℕ → Previous → Block
wrong_block n previous = record { version = V1; header = record { number = n; previous = previous; data_hash = data_hash_of txs_0 }; txs = [] }

-- the commit hashes of block 0, with two bad payloads, and of an empty block behind it
abbrev commit_hash_0 : List ℕ
commit_hash_0 = commit_hash_of (replicate 32 0) (commit_bytes (record { version = V1; number = 0; flags = BadPayload ∷ BadPayload ∷ []; before = empty; after = empty; definition = None }))

abbrev commit_hash_1 : List ℕ
commit_hash_1 = commit_hash_of commit_hash_0 (commit_bytes (record { version = V1; number = 1; flags = []; before = empty; after = empty; definition = None }))

-- the world after block 0
abbrev world_1 : Policies → World
world_1 definitions = record { state = empty; history = empty; first_uses = empty; definitions = definitions; blocks = record { bytes = bytes_of block_0; header_hash = hash_0; commit_hash = commit_hash_0; version = V1; flags = BadPayload ∷ BadPayload ∷ [] } ∷ [] }

abbrev no_txs : List (Option Item)
no_txs = None ∷ None ∷ []

-- neither `a` nor no bytes are a transaction
no_txs_in_0 : items_of block_0 ≡ no_txs
unfolding name_at body_at tx_at whole_tx_at
no_txs_in_0 = refl

-- given that hashes have 32 bytes
module _ (channel : Configuration) (accepts : Accepts) (data_hash_len : (txs : List (List ℕ)) → length (data_hash_of txs) ≡ 32) (header_hash_len : (h : Header) → length (header_hash_of h) ≡ 32) where
  spelled_0 : Spells (bytes_of block_0) block_0
  spelled_0 = record { header = record { number = omega arith; previous = tt; data_hash = data_hash_len txs_0 }; count = omega arith; each = (omega arith, (omega arith, tt)); fields = refl }

  spelled_after_0 : (n : ℕ) → n ≤ 3 → Spells (bytes_of (empty_block n (Hash hash_0))) (empty_block n (Hash hash_0))
  spelled_after_0 n small = record { header = record { number = omega arith; previous = header_hash_len block_0.header; data_hash = data_hash_len [] }; count = omega arith; each = tt; fields = refl }

  spelled_wrong : Spells (bytes_of (wrong_block 1 (Hash hash_0))) (wrong_block 1 (Hash hash_0))
  spelled_wrong = record { header = record { number = omega arith; previous = header_hash_len block_0.header; data_hash = data_hash_len txs_0 }; count = omega arith; each = tt; fields = refl }

  flags_0 : BadPayload ∷ BadPayload ∷ [] ≡ flags (job_of channel accepts (empty_world channel.definitions) no_txs)
  flags_0 = refl

  kept_0 : world_1 channel.definitions ≡ committed channel accepts (empty_world channel.definitions) no_txs (committed_of (bytes_of block_0) None block_0 (job_of channel accepts (empty_world channel.definitions) no_txs))
  unfolding running entries_to definitions_to with_entries with_uses with_definitions
  kept_0 = refl

  -- accepted, with a flag for each transaction
  block_0_first : Step channel accepts (empty_world channel.definitions) (bytes_of block_0) (Ok (record { number = 0; header_hash = hash_0; commit_hash = commit_hash_0; flags = BadPayload ∷ BadPayload ∷ [] })) (world_1 channel.definitions)
  unfolding running definitions_to
  block_0_first = (
    block_0,
    spelled_0,
    record { number = refl; previous = refl; data_hash = refl; version = refl },
    ap (λ (txs : List (Option Item)). record { number = 0; header_hash = hash_0; commit_hash = commit_hash_in None V1 (job_of channel accepts (empty_world channel.definitions) txs); flags = flags (job_of channel accepts (empty_world channel.definitions) txs) }) (sym no_txs_in_0),
    kept_0 ∙ ap (λ (txs : List (Option Item)). committed channel accepts (empty_world channel.definitions) txs (committed_of (bytes_of block_0) None block_0 (job_of channel accepts (empty_world channel.definitions) txs))) (sym no_txs_in_0),
  )

  block_0_again : Step channel accepts (world_1 channel.definitions) (bytes_of block_0) (Err (WrongNumber 1 0)) (world_1 channel.definitions)
  block_0_again = ((block_0, spelled_0, ((λ e. absurd (omega arith)), refl, refl)), refl)

  -- the number goes before the previous hash
  block_2_too_early : Step channel accepts (world_1 channel.definitions) (bytes_of (empty_block 2 (Hash hash_0))) (Err (WrongNumber 1 2)) (world_1 channel.definitions)
  block_2_too_early = ((empty_block 2 (Hash hash_0), spelled_after_0 2 (omega arith), ((λ e. absurd (omega arith)), refl, refl)), refl)

  abbrev world_2 : World
  world_2 = record { state = empty; history = empty; first_uses = empty; definitions = channel.definitions; blocks = (world_1 channel.definitions).blocks ++ record { bytes = bytes_of (empty_block 1 (Hash hash_0)); header_hash = header_hash_of (empty_block 1 (Hash hash_0)).header; commit_hash = commit_hash_1; version = V1; flags = [] } ∷ [] }

  block_1_next : Step channel accepts (world_1 channel.definitions) (bytes_of (empty_block 1 (Hash hash_0))) (Ok (record { number = 1; header_hash = header_hash_of (empty_block 1 (Hash hash_0)).header; commit_hash = commit_hash_1; flags = [] })) world_2
  unfolding running entries_to definitions_to with_entries with_uses with_definitions
  block_1_next = (empty_block 1 (Hash hash_0), spelled_after_0 1 (omega arith), record { number = refl; previous = refl; data_hash = refl; version = refl }, refl, refl)

  -- block 0 with a previous hash
  block_0_with_previous : Step channel accepts (empty_world channel.definitions) (bytes_of (empty_block 0 (Hash hash_0))) (Err WrongPrevious) (empty_world channel.definitions)
  block_0_with_previous = ((empty_block 0 (Hash hash_0), spelled_after_0 0 (omega arith), (refl, (λ e. absurd cc))), refl)

  -- another data hash than that of no transactions, given that the two differ
  block_1_wrong : (data_hash_of txs_0 ≡ data_hash_of [] → ⊥) → Step channel accepts (world_1 channel.definitions) (bytes_of (wrong_block 1 (Hash hash_0))) (Err WrongDataHash) (world_1 channel.definitions)
  block_1_wrong apart = ((wrong_block 1 (Hash hash_0), spelled_wrong, (refl, refl, apart)), refl)
