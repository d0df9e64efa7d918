-- A block of short transactions after a header has an encoding.
use Rattle.std.proofs.Common.{ℕ, ◌+◌, ◌<◌, ◌≤◌, ◌^◌, List, length, Option, Some, None, refl, arith}
use Rattle.std.specs.Prelude.{IfSome}
use Rattle.std.specs.List.{AllByRecursion}
use Rattle.sha2.proofs.Facts256.{length-sha256}
use Rattle.transaction.specs.declared.block_version.BlockVersion.{BlockVersion}
use Rattle.block.specs.Grammar.{IsHeader, IsTx, Spells, bytes_of}
use Rattle.block.specs.Limits.{max_txs}
use Rattle.block.specs.declared.block.Header.{Header}
use Rattle.header_hash.specs.Hashes.{joined}
use Rattle.header_hash.specs.Der.{der_of}
use Rattle.drafts.specs.DraftBlock.{header_after, block_after}

-- the next number is a number of 64 bits
abbrev pub HasNext : Option Header → Type 0
HasNext previous = IfSome previous (λ h. h.number + 1 < 2 ^ 64)

header_fits : (previous : Option Header) (txs : List (List ℕ)) → HasNext previous → IsHeader (header_after previous txs)
header_fits None txs next = record { number = omega arith; previous = tt; data_hash = length-sha256 (joined txs) }
header_fits (Some before) txs next = record { number = next; previous = length-sha256 (der_of before); data_hash = length-sha256 (joined txs) }

pub block_spelled : (version : BlockVersion) (previous : Option Header) (txs : List (List ℕ)) → HasNext previous → length txs ≤ max_txs → AllByRecursion IsTx txs → Spells (bytes_of (block_after version previous txs)) (block_after version previous txs)
block_spelled version previous txs next count each = record { header = header_fits previous txs next; count = count; each = each; fields = refl }
