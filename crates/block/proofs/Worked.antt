-- Worked rows of the grammar of version 1, from the 49 bytes of the empty block 0.
use Rattle.std.proofs.Common.{◌≡◌, ℕ, List, [], ◌∷◌, ◌++◌, length, take, refl, arith}
use Rattle.block.specs.declared.block.Header.{Header}
use Rattle.block.specs.declared.block.Previous.TheVariants.{Empty}
use Rattle.block.specs.declared.fault.BlockFault.TheVariants.{BadMagic, Truncated, PreviousLength, TooManyTxs, TxTooLong, TrailingBytes}
use Rattle.block.specs.first_version.Grammar.{IsHeader, Spells}
use Rattle.block.specs.first_version.Faults.{number, count, tx_length, tx, HasFault}

-- SHA-256 of no bytes
abbrev no_data : List ℕ
no_data =
    227 ∷ 176 ∷ 196 ∷ 66 ∷ 152 ∷ 252 ∷ 28 ∷ 20 ∷ 154 ∷ 251 ∷ 244 ∷ 200 ∷ 153 ∷ 111 ∷ 185 ∷ 36 ∷
    39 ∷ 174 ∷ 65 ∷ 228 ∷ 100 ∷ 155 ∷ 147 ∷ 76 ∷ 164 ∷ 149 ∷ 153 ∷ 27 ∷ 120 ∷ 82 ∷ 184 ∷ 85 ∷ []

abbrev pub header_0 : Header
header_0 = record { number = 0; previous = Empty; data_hash = no_data }

pub is_header_0 : IsHeader header_0
is_header_0 = record { number = omega arith; previous = tt; data_hash = refl }

-- the bytes up to the count
abbrev front : List ℕ
front = 0x46 ∷ 0x42 ∷ 0x4b ∷ 0x31 ∷ 0 ∷ 0 ∷ 0 ∷ 0 ∷ 0 ∷ 0 ∷ 0 ∷ 0 ∷ 0 ∷ no_data

abbrev with_count : List ℕ → List ℕ
with_count rest = front ++ rest

abbrev pub block_0 : List ℕ
block_0 = with_count (0 ∷ 0 ∷ 0 ∷ 0 ∷ [])

has_49_bytes : length block_0 ≡ 49
has_49_bytes = refl

empty_block : Spells block_0 (record { header = header_0; txs = [] })
empty_block = record { header = is_header_0; count = omega arith; each = tt; fields = refl }

-- one transaction `ab`
one_transaction : Spells (with_count (0 ∷ 0 ∷ 0 ∷ 1 ∷ 0 ∷ 0 ∷ 0 ∷ 2 ∷ 97 ∷ 98 ∷ [])) (record { header = header_0; txs = (97 ∷ 98 ∷ []) ∷ [] })
one_transaction = record { header = is_header_0; count = omega arith; each = (omega arith, tt); fields = refl }

cut_to_3 : HasFault (take 3 block_0) BadMagic
cut_to_3 rest e = absurd cc

pub cut_to_4 : HasFault (take 4 block_0) Truncated
cut_to_4 = (number, [], (tt, refl), omega arith)

cut_to_48 : HasFault (take 48 block_0) Truncated
cut_to_48 = (count header_0, 0 ∷ 0 ∷ 0 ∷ [], (is_header_0, refl), omega arith)

pub one_byte_more : HasFault (block_0 ++ 7 ∷ []) TrailingBytes
one_byte_more = (record { header = header_0; txs = [] }, block_0, 7 ∷ [], empty_block, refl, omega arith)

length_1 : HasFault (0x46 ∷ 0x42 ∷ 0x4b ∷ 0x31 ∷ 0 ∷ 0 ∷ 0 ∷ 0 ∷ 0 ∷ 0 ∷ 0 ∷ 0 ∷ 1 ∷ []) PreviousLength
length_1 = (0, 1, [], (omega arith, refl), (λ e. absurd (omega arith)), (λ e. absurd (omega arith)))

count_4097 : HasFault (with_count (0 ∷ 0 ∷ 0x10 ∷ 1 ∷ [])) TooManyTxs
count_4097 = (header_0, 4097, [], (is_header_0, refl), omega arith, omega arith)

count_4096 : HasFault (with_count (0 ∷ 0 ∷ 0x10 ∷ 0 ∷ [])) Truncated
count_4096 = (tx_length header_0 4096 [], [], ((is_header_0, omega arith, omega arith, tt), refl), omega arith)

one_byte_too_long : HasFault (with_count (0 ∷ 0 ∷ 0 ∷ 1 ∷ 0 ∷ 0x10 ∷ 0 ∷ 1 ∷ [])) TxTooLong
one_byte_too_long = (header_0, 1, [], 1048577, [], ((is_header_0, omega arith, omega arith, tt), refl), omega arith, omega arith)

longest_without_its_bytes : HasFault (with_count (0 ∷ 0 ∷ 0 ∷ 1 ∷ 0 ∷ 0x10 ∷ 0 ∷ 0 ∷ [])) Truncated
longest_without_its_bytes = (tx header_0 1 [] 1048576, [], ((is_header_0, omega arith, omega arith, tt, omega arith), refl), omega arith)
