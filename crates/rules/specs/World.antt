-- What a ledger holds.
use Rattle.std.specs.Prelude.{ℕ, ◌-◌, List, [], length, Option, Some, None, option_map, unwrap_or, slice_get}
use Rattle.std.specs.FinMap.{empty}
use Rattle.transaction.specs.declared.block_version.BlockVersion.{BlockVersion}
use Rattle.transaction.specs.declared.block_version.BlockVersion.TheVariants.{V1}
use Rattle.block.specs.declared.block.Previous.{Previous}
use Rattle.block.specs.declared.block.Previous.TheVariants.{Empty, Hash}
use Rattle.policy.specs.Policies.{Policies}
use Rattle.rules.specs.declared.committed.CommittedBlock.{CommittedBlock}
use Rattle.rules.specs.State.{State}
use Rattle.rules.specs.History.{History}
use Rattle.rules.specs.FirstUses.{FirstUses}

pub record World : Type 0 where
  pub state : State
  pub history : History
  pub first_uses : FirstUses
  -- the policies of chaincodes
  pub definitions : Policies
  -- the accepted blocks in order
  pub blocks : List CommittedBlock

-- of a channel with these definitions
abbrev pub empty_world : Policies → World
empty_world definitions = record { state = empty; history = empty; first_uses = empty; definitions = definitions; blocks = [] }

-- the number of accepted blocks
abbrev pub height_of : World → ℕ
height_of w = length w.blocks

-- the header hash of the last block; at height 0 place 0 - 1 = 0 has none
abbrev pub last_header_hash : World → Option (List ℕ)
last_header_hash w = option_map (λ b. b.header_hash) (slice_get w.blocks (length w.blocks - 1))

-- the commit hash of the last block
abbrev pub last_commit_hash : World → Option (List ℕ)
last_commit_hash w = option_map (λ b. b.commit_hash) (slice_get w.blocks (length w.blocks - 1))

-- what the next block has as its previous hash
abbrev pub previous_from : Option (List ℕ) → Previous
previous_from None = Empty
previous_from (Some hash) = Hash hash

-- the version of the last block, and 1 at height 0
abbrev pub last_version : World → BlockVersion
last_version w = unwrap_or (option_map (λ b. b.version) (slice_get w.blocks (length w.blocks - 1))) V1
