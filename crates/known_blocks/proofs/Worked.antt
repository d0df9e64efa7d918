-- Rows worked by hand: three blocks were accepted, of versions 1, 2 and 2, and others have their numbers.
use Rattle.std.proofs.Common.{◌≡◌, ◌≢◌, ℕ, ◌+◌, true, false, List, [], ◌∷◌, ◌++◌, length, get_or, Some, None, refl, sym, ap, ◌∙◌, arith}
use Rattle.std.specs.FinMap.{empty}
use Rattle.std.proofs.lemmas.List.{length-append}
use Rattle.transaction.specs.declared.block_version.BlockVersion.{BlockVersion}
use Rattle.transaction.specs.declared.block_version.BlockVersion.TheVariants.{V1, V2}
use Rattle.block.specs.declared.block.Block.{Block}
use Rattle.block.specs.declared.block.Previous.{Previous}
use Rattle.block.specs.declared.block.Previous.TheVariants.{Empty, Hash}
use Rattle.block.specs.first_version.Grammar.{txs_bytes}
use Rattle.block.specs.Grammar.{bytes_of, magic_of, header_fields}
use Rattle.header_hash.specs.Hashes.{header_hash_of, data_hash_of}
use Rattle.rules.specs.declared.committed.CommittedBlock.{CommittedBlock}
use Rattle.rules.specs.World.{World}
use Rattle.known_blocks.specs.declared.known.KnownAs.TheVariants.{Same, Twin, Fork, Other}
use Rattle.known_blocks.specs.Known.{IsKnownAs, IsSaid}

-- a block of this version, number, previous hash and data hash
abbrev block_of : BlockVersion → ℕ → Previous → List ℕ → List (List ℕ) → Block
block_of version n previous data_hash txs = record { version = version; header = record { number = n; previous = previous; data_hash = data_hash }; txs = txs }

-- its data hash is right
abbrev right : BlockVersion → ℕ → Previous → List (List ℕ) → Block
right version n previous txs = block_of version n previous (data_hash_of txs) txs

-- as it is kept
abbrev kept : Block → CommittedBlock
kept b = record { bytes = bytes_of b; header_hash = header_hash_of b.header; commit_hash = []; version = b.version; flags = [] }

abbrev two_txs : List (List ℕ)
two_txs = (1 ∷ 2 ∷ []) ∷ (3 ∷ []) ∷ []

abbrev first : Block
first = right V1 0 Empty []

abbrev hash_0 : List ℕ
hash_0 = header_hash_of first.header

abbrev second : Block
second = right V2 1 (Hash hash_0) two_txs

abbrev hash_1 : List ℕ
hash_1 = header_hash_of second.header

abbrev third : Block
third = right V2 2 (Hash hash_1) []

abbrev ledger : World
ledger = record { state = empty; history = empty; first_uses = empty; definitions = empty; blocks = kept first ∷ kept second ∷ kept third ∷ [] }

-- ---- bytes that differ

-- blocks of both versions, by the fourth byte
other_version : (b c : Block) → b.version ≡ V2 → c.version ≡ V1 → bytes_of b ≢ bytes_of c
other_version b c newer older same =
    let fourth : 0x32 ≡ 0x31 =
    sym (ap (λ (v : BlockVersion). get_or (magic_of v ++ (header_fields b.header ++ txs_bytes (length b.txs) b.txs)) 3 0) newer)
    ∙ (ap (λ (bytes : List ℕ). get_or bytes 3 0) same
    ∙ ap (λ (v : BlockVersion). get_or (magic_of v ++ (header_fields c.header ++ txs_bytes (length c.txs) c.txs)) 3 0) older) in
    absurd (omega (arith, fourth))

long : (magic header xs : List ℕ) → length (magic ++ (header ++ xs)) ≡ length magic + (length header + length xs)
long magic header xs = length-append magic (header ++ xs) ∙ ap (λ n. length magic + n) (length-append header xs)

-- blocks of one version and header, by the length of their transactions
other_length : (magic header xs ys : List ℕ) → length xs ≢ length ys → magic ++ (header ++ xs) ≢ magic ++ (header ++ ys)
other_length magic header xs ys differ same =
    let sum : length magic + (length header + length xs) ≡ length magic + (length header + length ys) =
    sym (long magic header xs) ∙ (ap length same ∙ long magic header ys) in
    differ (omega (arith, sum))

-- ---- same

the_same : IsKnownAs ledger (kept second) second Same
the_same = refl

same_is_said : IsSaid ledger second (Some (record { number = 1; how = Same; accepted = hash_1; own = hash_1 }))
same_is_said = (kept second, refl, record { number = refl; how = refl; accepted = refl; own = refl })

-- ---- twin

-- the version isn't hashed
twin_of_version : IsKnownAs ledger (kept second) (right V1 1 (Hash hash_0) two_txs) Twin
twin_of_version = (
  other_version second (right V1 1 (Hash hash_0) two_txs) refl refl,
  record { previous = refl; data_hash = refl; version = refl },
  refl,
)

-- nor is where a transaction ends and the next one begins
abbrev joined_txs : Block
joined_txs = right V2 1 (Hash hash_0) ((1 ∷ 2 ∷ 3 ∷ []) ∷ [])

one_data_hash : data_hash_of two_txs ≡ data_hash_of ((1 ∷ 2 ∷ 3 ∷ []) ∷ [])
one_data_hash = refl

twin_of_bounds : IsKnownAs ledger (kept second) joined_txs Twin
twin_of_bounds = (
  other_length (magic_of V2) (header_fields second.header) (txs_bytes 2 two_txs) (txs_bytes 1 joined_txs.txs) (λ e. absurd (omega arith)),
  record { previous = refl; data_hash = refl; version = refl },
  refl,
)

a_twin_is_not_the_same : IsKnownAs ledger (kept second) joined_txs Same → ⊥
a_twin_is_not_the_same same = twin_of_bounds.0 same

-- block 0 has no block before
twin_of_the_first : IsKnownAs ledger (kept first) (right V2 0 Empty []) Twin
twin_of_the_first = (
  (λ same. other_version (right V2 0 Empty []) first refl refl (sym same)),
  record { previous = refl; data_hash = refl; version = refl },
  refl,
)

-- ---- fork

abbrev forked : Block
forked = right V1 1 (Hash hash_0) ((4 ∷ []) ∷ [])

a_fork : header_hash_of forked.header ≢ hash_1 → IsKnownAs ledger (kept second) forked Fork
a_fork differ = (other_version second forked refl refl, record { previous = refl; data_hash = refl; version = refl }, differ)

-- ---- other

abbrev wrong_previous : Block
wrong_previous = right V1 1 Empty two_txs

other_by_previous : IsKnownAs ledger (kept second) wrong_previous Other
other_by_previous = (
  other_version second wrong_previous refl refl,
  λ linked. let wrong : Empty ≡ Hash hash_0 = linked.previous in absurd cc,
)

abbrev hash_in : Previous → List ℕ
hash_in Empty = []
hash_in (Hash h) = h

-- the previous hash is that of the accepted block of this number
abbrev late_previous : Block
late_previous = right V1 1 (Hash hash_1) two_txs

other_by_place : hash_1 ≢ hash_0 → IsKnownAs ledger (kept second) late_previous Other
other_by_place differ = (
  other_version second late_previous refl refl,
  λ linked. differ (ap hash_in linked.previous),
)

other_by_data_hash : (data_hash : List ℕ) → data_hash ≢ data_hash_of two_txs → IsKnownAs ledger (kept second) (block_of V1 1 (Hash hash_0) data_hash two_txs) Other
other_by_data_hash data_hash wrong = (
  other_version second (block_of V1 1 (Hash hash_0) data_hash two_txs) refl refl,
  λ linked. wrong linked.data_hash,
)

-- after a block of version 2
other_by_version : IsKnownAs ledger (kept third) (right V1 2 (Hash hash_1) []) Other
other_by_version = (
  other_version third (right V1 2 (Hash hash_1) []) refl refl,
  λ linked. let wrong : true ≡ false = linked.version in absurd cc,
)

other_is_said : IsSaid ledger wrong_previous (Some (record { number = 1; how = Other; accepted = hash_1; own = header_hash_of wrong_previous.header }))
other_is_said = (kept second, refl, record { number = refl; how = other_by_previous; accepted = refl; own = refl })

-- ---- a number that wasn't accepted

nothing_said : IsSaid ledger (right V2 3 (Hash (header_hash_of third.header)) []) None
nothing_said = refl

something_is_said_of_the_last : IsSaid ledger third None → ⊥
something_is_said_of_the_last said = absurd cc
