-- Worked rows of both versions: magics, and blocks and faults after them.
use Rattle.std.proofs.Common.{◌≡◌, ℕ, List, [], ◌∷◌, ◌++◌, take, drop, get_or, refl, ap, arith}
use Rattle.transaction.specs.declared.block_version.BlockVersion.{BlockVersion}
use Rattle.transaction.specs.declared.block_version.BlockVersion.TheVariants.{V1, V2}
use Rattle.block.specs.declared.block.Block.{Block}
use Rattle.block.specs.declared.fault.BlockFault.TheVariants.{BadMagic, Truncated, TrailingBytes}
use Rattle.block.specs.Grammar.{bytes_of, Spells}
use Rattle.block.specs.Faults.{HasFault}
use Rattle.block.proofs.Worked as first

-- the empty block 0
abbrev empty : BlockVersion → Block
empty version = record { version = version; header = first.header_0; txs = [] }

-- `FBK1` and `FBK2`
starts_with_FBK1 : take 4 (bytes_of (empty V1)) ≡ 0x46 ∷ 0x42 ∷ 0x4b ∷ 0x31 ∷ []
starts_with_FBK1 = refl

starts_with_FBK2 : take 4 (bytes_of (empty V2)) ≡ 0x46 ∷ 0x42 ∷ 0x4b ∷ 0x32 ∷ []
starts_with_FBK2 = refl

-- as they were encoded when there was one version
same_bytes_as_ever : bytes_of (empty V1) ≡ first.block_0
same_bytes_as_ever = refl

-- only the magic distinguishes the versions
same_behind_the_magic : drop 4 (bytes_of (empty V2)) ≡ drop 4 (bytes_of (empty V1))
same_behind_the_magic = refl

spelled : (version : BlockVersion) → Spells (bytes_of (empty version)) (empty version)
spelled version = record { header = first.is_header_0; count = omega arith; each = tt; fields = refl }

-- neither magic: one that doesn't exist, and the common beginning of both
third_magic : HasFault (0x46 ∷ 0x42 ∷ 0x4b ∷ 0x33 ∷ drop 4 first.block_0) BadMagic
third_magic V1 rest e = let fourth = ap (λ (l : List ℕ). get_or l 3 0) e in absurd (omega (arith, fourth))
third_magic V2 rest e = let fourth = ap (λ (l : List ℕ). get_or l 3 0) e in absurd (omega (arith, fourth))

three_bytes : HasFault (take 3 (bytes_of (empty V2))) BadMagic
three_bytes V1 rest e = absurd cc
three_bytes V2 rest e = absurd cc

cut_behind_the_second_magic : HasFault (take 4 (bytes_of (empty V2))) Truncated
cut_behind_the_second_magic = (V2, [], refl, first.cut_to_4)

one_byte_more_behind_the_second : HasFault (bytes_of (empty V2) ++ 7 ∷ []) TrailingBytes
one_byte_more_behind_the_second = (V2, drop 4 first.block_0 ++ 7 ∷ [], refl, first.one_byte_more)
