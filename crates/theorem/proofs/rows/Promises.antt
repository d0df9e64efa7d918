-- Worked rows: what is submitted to a new committer, and to one that has stopped, and what a handle answers.
use Rattle.std.proofs.Common.{◌≡◌, ◌≢◌, ℕ, true, false, List, [], ◌∷◌, length, None, Some, Ok, Err, refl, sym, ap, ◌∙◌, arith}
use Rattle.block.specs.declared.block.Block.{Block}
use Rattle.block.specs.declared.block.Previous.TheVariants.{Empty}
use Rattle.block.specs.Grammar.{bytes_of, Spells}
use Rattle.transaction.specs.declared.block_version.BlockVersion.TheVariants.{V1}
use Rattle.header_hash.specs.Hashes.{data_hash_of}
use Rattle.rules.specs.declared.answer.Refused.TheVariants.{WrongNumber, WrongDataHash, Memory}
use Rattle.rules.specs.Answers.{Reply, reply, height_answer}
use Rattle.rules.specs.Linked.{IsLinked}
use Rattle.rules.specs.World.{World, empty_world}
use Rattle.rules.proofs.rows.Shared.{channel, any}
use Rattle.commit.specs.declared.not_committed.NotCommitted.TheVariants.{Refused, MemoryInCommit, Stopped}
use Rattle.theorem.specs.Step.{answer_to, ledger_after}
use Rattle.theorem.specs.Promise.{Shown, ledger_at, Submits, Queries}

abbrev opened : Shown
opened = record { channel = channel; ledgers = []; stopped = false }

abbrev ledger_0 : World
ledger_0 = empty_world channel.definitions

-- a first block without items
abbrev block_of : ℕ → List ℕ → Block
block_of n data_hash = record { version = V1; header = record { number = n; previous = Empty; data_hash = data_hash }; txs = [] }

abbrev bytes : ℕ → List ℕ → List ℕ
bytes n data_hash = bytes_of (block_of n data_hash)

-- whatever the data hash is
module _ (hash : List ℕ) (hash_len : length hash ≡ 32) where
  block_0 : Spells (bytes 0 hash) (block_of 0 hash)
  block_0 = record { header = record { number = omega arith; previous = tt; data_hash = hash_len }; count = omega arith; each = tt; fields = refl }

  block_1 : Spells (bytes 1 hash) (block_of 1 hash)
  block_1 = record { header = record { number = omega arith; previous = tt; data_hash = hash_len }; count = omega arith; each = tt; fields = refl }

  pub wrong_number : Submits any opened (bytes 1 hash) (Err (Refused (WrongNumber 0 1))) opened
  wrong_number = (refl, (block_of 1 hash, block_1, ((λ e. absurd (omega arith)), refl, refl)), refl)

  pub wrong_data_hash : hash ≢ data_hash_of [] → Submits any opened (bytes 0 hash) (Err (Refused WrongDataHash)) opened
  wrong_data_hash wrong = (refl, (block_of 0 hash, block_0, (refl, refl, wrong)), refl)

  module _ (own : hash ≡ data_hash_of []) where
    abbrev next : World
    next = ledger_after channel any ledger_0 (bytes 0 hash) (block_of 0 hash)

    linked : IsLinked ledger_0 (block_of 0 hash)
    linked = record { number = refl; previous = refl; data_hash = own; version = refl }

    abbrev shown : Shown
    shown = record opened { ledgers = next ∷ [] }

    pub accepted : Submits any opened (bytes 0 hash) (Ok (answer_to channel any ledger_0 (block_of 0 hash))) shown
    accepted = (refl, (next, (block_of 0 hash, block_0, linked, refl, refl), refl))

    -- the same bytes, if memory runs out before anything is shown, and if it runs out later
    pub out_of_memory : Submits any opened (bytes 0 hash) (Err (Refused Memory)) opened
    out_of_memory = (refl, tt, refl)

    pub out_of_memory_late : Submits any opened (bytes 0 hash) (Err MemoryInCommit) (record opened { stopped = true })
    out_of_memory_late = (refl, (answer_to channel any ledger_0 (block_of 0 hash), next, (block_of 0 hash, block_0, linked, refl, refl)), refl)

    -- a handle that knows of height 0 may answer from it or from height 1, and one that knows of height 1 from this
    pub from_the_first : Queries shown 0 height_answer (reply ledger_0 0) 0
    from_the_first = record { ledger = ledger_0; shown = refl; answer = refl; no_earlier = omega arith; knows = refl }

    pub from_the_next : Queries shown 0 height_answer (reply next 1) 1
    from_the_next = record { ledger = next; shown = refl; answer = refl; no_earlier = omega arith; knows = refl }

    pub not_from_the_first : (known : ℕ) → Queries shown 1 height_answer (reply ledger_0 0) known → ⊥
    not_from_the_first known q = absurd (omega (arith, q.no_earlier))

    -- no ledger of height 2 was shown
    pub not_from_a_later_one : (r : Reply ℕ) (known : ℕ) → r.height ≡ 2 → Queries shown 0 height_answer r known → ⊥
    not_from_a_later_one r known two q =
        let none : None ≡ Some q.ledger = sym (ap (ledger_at shown) two) ∙ q.shown in
        absurd cc

pub stopped_stays : (any_bytes : List ℕ) → Submits any (record opened { stopped = true }) any_bytes (Err Stopped) (record opened { stopped = true })
stopped_stays any_bytes = (refl, refl)
