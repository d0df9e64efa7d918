-- The fault of bytes that encode no block: that of the first field, from left to right, that can't be read.
use Rattle.std.specs.Prelude.{◌≡◌, ◌≢◌, ℕ, List, ◌++◌}
use Rattle.transaction.specs.declared.block_version.BlockVersion.{BlockVersion}
use Rattle.block.specs.declared.fault.BlockFault.{BlockFault}
use Rattle.block.specs.declared.fault.BlockFault.TheVariants.{BadMagic, Truncated, PreviousLength, TooManyTxs, TxTooLong, TrailingBytes, Memory}
use Rattle.block.specs.Grammar.{magic_of}
use Rattle.block.specs.first_version.Grammar.{magic}
use Rattle.block.specs.first_version.Faults as first

-- after a magic the fault is that of the same bytes after the magic of version 1
abbrev pub HasFaultBehind : List ℕ → BlockFault → Type 0
HasFaultBehind bytes fault = (version : BlockVersion) × (rest : List ℕ) × (bytes ≡ magic_of version ++ rest) × first.HasFault (magic ++ rest) fault

abbrev pub HasFault : List ℕ → BlockFault → Type 0
-- the bytes begin with no magic
HasFault bytes BadMagic = (version : BlockVersion) (rest : List ℕ) → bytes ≢ magic_of version ++ rest
HasFault bytes Truncated = HasFaultBehind bytes Truncated
HasFault bytes PreviousLength = HasFaultBehind bytes PreviousLength
HasFault bytes TooManyTxs = HasFaultBehind bytes TooManyTxs
HasFault bytes TxTooLong = HasFaultBehind bytes TxTooLong
HasFault bytes TrailingBytes = HasFaultBehind bytes TrailingBytes
HasFault bytes Memory = ⊥
