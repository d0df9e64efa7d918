-- A proper beginning of an encoding has one fault: that it ends too early.
use Rattle.std.proofs.Common.{◌≡◌, ℕ, ◌<◌, ◌≤◌, ◌+◌, ◌⊎◌, List, ◌∷◌, ◌++◌, length, take, drop, inl, inr, refl, sym, ap, ◌∙◌, append_assoc, arith}
use Rattle.std.proofs.lemmas.List.{take-append-le, take-append-drop, length-append}
use Rattle.byteorder.specs.Endian.{big_bytes}
use Rattle.values.proofs.Numbers.{IsBytes}
use Rattle.block.specs.declared.fault.BlockFault.{BlockFault}
use Rattle.block.specs.declared.fault.BlockFault.TheVariants.{BadMagic, Truncated, PreviousLength, TooManyTxs, TxTooLong, TrailingBytes, Memory}
use Rattle.block.specs.first_version.Grammar.{Block, magic, Spells}
use Rattle.block.specs.first_version.Faults.{Field, previous_length, count, tx_length, before, Reaches, HasFault}
use Rattle.block.proofs.FirstLaws.{block_or_fault, some_reading}
use Rattle.block.specs.declared.block.Block as versioned
use Rattle.block.specs.Grammar as grammar
use Rattle.block.specs.Faults as faults
use Rattle.transaction.specs.declared.block_version.BlockVersion.{BlockVersion}
use Rattle.transaction.specs.declared.block_version.BlockVersion.TheVariants.{V1, V2}
use Rattle.block.proofs.Versions.{as_first, fits_behind}

-- a field that is read in the front is read in the whole
still : (front rest : List ℕ) (field : Field) (seen whole : List ℕ) → seen ++ rest ≡ whole → Reaches front field seen → Reaches (front ++ rest) field whole
still front rest field seen whole e h = (h.0, ap (λ (l : List ℕ). l ++ rest) h.1 ∙ append_assoc (before field) seen rest ∙ ap (λ (l : List ℕ). before field ++ l) e)

begins_with_magic : (front rest : List ℕ) (b : Block) → Spells (front ++ rest) b → 4 ≤ length front → front ≡ magic ++ drop 4 front
begins_with_magic front rest b spells long =
    sym (take-append-drop 4 front) ∙ ap (λ (l : List ℕ). l ++ drop 4 front) (sym (take-append-le 4 front rest long) ∙ ap (take 4) spells.fields)

no_short_magic : (front : List ℕ) → length front < 4 → HasFault front BadMagic
no_short_magic front short rest e =
    let as_long : length front ≡ 4 + length rest = ap length e ∙ length-append magic rest in
    absurd (omega (arith, short, as_long))

-- any other fault of the front would be one of the whole
only_cut : (front rest : List ℕ) (b : Block) (f : BlockFault) → Spells (front ++ rest) b → 4 ≤ length front → HasFault front f → HasFault front Truncated
only_cut front rest b BadMagic spells long h = absurd (h (drop 4 front) (begins_with_magic front rest b spells long))
only_cut front rest b Truncated spells long h = h
only_cut front rest b PreviousLength spells long h =
    let of_whole = still front rest (previous_length h.0) (h.1 ∷ h.2) (h.1 ∷ (h.2 ++ rest)) refl h.3 in
    absurd (block_or_fault (front ++ rest) b PreviousLength spells (h.0, h.1, h.2 ++ rest, of_whole, h.4, h.5))
only_cut front rest b TooManyTxs spells long h =
    let of_whole = still front rest (count h.0) (big_bytes 4 h.1 ++ h.2) (big_bytes 4 h.1 ++ (h.2 ++ rest)) (append_assoc (big_bytes 4 h.1) h.2 rest) h.3 in
    absurd (block_or_fault (front ++ rest) b TooManyTxs spells (h.0, h.1, h.2 ++ rest, of_whole, h.4, h.5))
only_cut front rest b TxTooLong spells long h =
    let of_whole = still front rest (tx_length h.0 h.1 h.2) (big_bytes 4 h.3 ++ h.4) (big_bytes 4 h.3 ++ (h.4 ++ rest)) (append_assoc (big_bytes 4 h.3) h.4 rest) h.5 in
    absurd (block_or_fault (front ++ rest) b TxTooLong spells (h.0, h.1, h.2, h.3, h.4 ++ rest, of_whole, h.6, h.7))
only_cut front rest b TrailingBytes spells long h =
    let whole : front ++ rest ≡ h.1 ++ (h.2 ++ rest) = ap (λ (l : List ℕ). l ++ rest) h.4 ∙ append_assoc h.1 h.2 rest in
    let some_left : 0 < length (h.2 ++ rest) = rw (length-append h.2 rest) (omega (arith, h.5)) in
    absurd (block_or_fault (front ++ rest) b TrailingBytes spells (h.0, h.1, h.2 ++ rest, h.3, whole, some_left))
only_cut front rest b Memory spells long h = absurd h

-- a block that ends before the whole leaves bytes after itself
no_block : (front rest : List ℕ) (b c : Block) → Spells (front ++ rest) b → 0 < length rest → Spells front c → ⊥
no_block front rest b c spells some_left ends = block_or_fault (front ++ rest) b TrailingBytes spells (c, front, rest, ends, refl, some_left)

is_truncated : (front rest : List ℕ) (b : Block) → Spells (front ++ rest) b → 0 < length rest → 4 ≤ length front → ((c : Block) × Spells front c) ⊎ ((f : BlockFault) × HasFault front f) → HasFault front Truncated
is_truncated front rest b spells some_left long (inl block) = absurd (no_block front rest b block.0 spells some_left block.1)
is_truncated front rest b spells some_left long (inr fault) = only_cut front rest b fault.0 spells long fault.1

cut_first : (front rest : List ℕ) (b : Block) → IsBytes front → Spells (front ++ rest) b → 0 < length rest → 4 ≤ length front → HasFault front Truncated
cut_first front rest b fits spells some_left long = is_truncated front rest b spells some_left long (some_reading front fits)

-- ---- either version

magic_of_4 : (version : BlockVersion) → length (grammar.magic_of version) ≡ 4
magic_of_4 V1 = refl
magic_of_4 V2 = refl

take_magic : (version : BlockVersion) (rest : List ℕ) → take 4 (grammar.magic_of version ++ rest) ≡ grammar.magic_of version
take_magic V1 rest = refl
take_magic V2 rest = refl

pub cut_magic : (front rest : List ℕ) (b : versioned.Block) → grammar.Spells (front ++ rest) b → length front < 4 → faults.HasFault front BadMagic
cut_magic front rest b spells short version behind e =
    let as_long : length front ≡ length (grammar.magic_of version) + length behind = ap length e ∙ length-append (grammar.magic_of version) behind in
    absurd (omega (arith, short, as_long, magic_of_4 version))

begins : (front rest : List ℕ) (b : versioned.Block) → grammar.Spells (front ++ rest) b → 4 ≤ length front → front ≡ grammar.magic_of b.version ++ drop 4 front
begins front rest b spells long =
    sym (take-append-drop 4 front) ∙ ap (λ (l : List ℕ). l ++ drop 4 front) (sym (take-append-le 4 front rest long) ∙ ap (take 4) spells.fields ∙ take_magic b.version _)

pub cut_behind_magic : (front rest : List ℕ) (b : versioned.Block) → IsBytes front → grammar.Spells (front ++ rest) b → 0 < length rest → 4 ≤ length front → faults.HasFault front Truncated
cut_behind_magic front rest b fits spells some_left long =
    let behind = drop 4 front in
    let with_magic = begins front rest b spells long in
    let whole : front ++ rest ≡ grammar.magic_of b.version ++ (behind ++ rest) = ap (λ (l : List ℕ). l ++ rest) with_magic ∙ append_assoc (grammar.magic_of b.version) behind rest in
    let fits_first = fits_behind front (b.version, behind) fits with_magic in
    let long_first : 4 ≤ length (magic ++ behind) = omega (arith, length-append magic behind) in
    (b.version, behind, with_magic, cut_first (magic ++ behind) rest (grammar.contents_of b) fits_first (as_first (front ++ rest) (behind ++ rest) b spells whole) some_left long_first)
