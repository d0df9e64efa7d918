-- Blocks of either version: their magic, and after it what is read as version 1.
use Rattle.std.proofs.Common.{◌≡◌, ◌≢◌, ◌⊎◌, ℕ, zero, suc, Bool, true, false, cond, List, [], ◌∷◌, ◌++◌, length, take, drop, Result, Ok, Err, refl, sym, ap, subst, ◌∙◌, inl, inr, arith}
use Rattle.std.specs.Prelude.{nat_eq}
use Rattle.std.specs.List.{starts_with}
use Rattle.std.specs.Cmp.Lexicographic.{same_text}
use Rattle.std.proofs.lemmas.List.{take-append-drop, append_cancel_left}
use Rattle.values.proofs.Numbers.{IsBytes, IsBytes-behind}
use Rattle.transaction.specs.declared.block_version.BlockVersion.{BlockVersion}
use Rattle.transaction.specs.declared.block_version.BlockVersion.TheVariants.{V1, V2}
use Rattle.block.specs.declared.block.Block.{Block}
use Rattle.block.specs.declared.fault.BlockFault.{BlockFault}
use Rattle.block.specs.declared.fault.BlockFault.TheVariants.{BadMagic, Truncated, PreviousLength, TooManyTxs, TxTooLong, TrailingBytes, Memory}
use Rattle.block.specs.Grammar.{magic_of, header_fields, Spells, contents_of, with_version}
use Rattle.block.specs.Faults.{HasFaultBehind, HasFault}
use Rattle.block.specs.first_version.Grammar as first
use Rattle.block.specs.first_version.Faults as first_faults
use Rattle.block.specs.Reading.{◌>>=◌, Read, block_at, version_at, versioned_at}
use Rattle.block.proofs.Steps.{bind_ok, bind_err, taken_ok, ok_is, ok_not_err}
use Rattle.block.proofs.Blocks as old
use Rattle.block.proofs.Faulty as old_faults
use Rattle.block.proofs.FaultyAgain as old_again

-- ---- the magic

abbrev begins : List ℕ → BlockVersion → Bool
begins bytes version = starts_with nat_eq bytes (magic_of version)

abbrev after_first : List ℕ → Read BlockVersion
after_first bytes = cond (begins bytes V2) (Ok (V2, drop 4 bytes)) (Err BadMagic)

begins_with : (version : BlockVersion) (bytes : List ℕ) → magic_of version ≡ take 4 bytes → bytes ≡ magic_of version ++ drop 4 bytes
begins_with version bytes front = sym (take-append-drop 4 bytes) ∙ ap (λ (t : List ℕ). t ++ drop 4 bytes) (sym front)

pub version_taken : (bytes : List ℕ) (x : BlockVersion × List ℕ) → version_at bytes ≡ Ok x → bytes ≡ magic_of x.0 ++ x.1
unfolding version_at
version_taken bytes x e = by_1 (begins bytes V1) refl e
  where
    by_2 : (b : Bool) → begins bytes V2 ≡ b → cond {A = Read BlockVersion} b (Ok (V2, drop 4 bytes)) (Err BadMagic) ≡ Ok x → bytes ≡ magic_of x.0 ++ x.1
    by_2 true t h = subst (λ (y : BlockVersion × List ℕ). bytes ≡ magic_of y.0 ++ y.1) (ok_is (V2, drop 4 bytes) x h) (begins_with V2 bytes (same_text (magic_of V2) (take 4 bytes) (sym t)))
    by_2 false t h = absurd (ok_not_err x BadMagic (sym h))

    by_1 : (b : Bool) → begins bytes V1 ≡ b → cond {A = Read BlockVersion} b (Ok (V1, drop 4 bytes)) (after_first bytes) ≡ Ok x → bytes ≡ magic_of x.0 ++ x.1
    by_1 true t h = subst (λ (y : BlockVersion × List ℕ). bytes ≡ magic_of y.0 ++ y.1) (ok_is (V1, drop 4 bytes) x h) (begins_with V1 bytes (same_text (magic_of V1) (take 4 bytes) (sym t)))
    by_1 false t h = by_2 (begins bytes V2) refl h

pub version_again : (version : BlockVersion) (rest : List ℕ) → version_at (magic_of version ++ rest) ≡ Ok (version, rest)
unfolding version_at
version_again V1 rest = refl
version_again V2 rest = refl

version_fails : (bytes : List ℕ) (f : BlockFault) → version_at bytes ≡ Err f → f ≡ BadMagic
unfolding version_at
version_fails bytes f e = by_1 (begins bytes V1) e
  where
    by_2 : (b : Bool) → cond {A = Read BlockVersion} b (Ok (V2, drop 4 bytes)) (Err BadMagic) ≡ Err f → f ≡ BadMagic
    by_2 true h = absurd (ok_not_err (V2, drop 4 bytes) f h)
    by_2 false h = cc

    by_1 : (b : Bool) → cond {A = Read BlockVersion} b (Ok (V1, drop 4 bytes)) (after_first bytes) ≡ Err f → f ≡ BadMagic
    by_1 true h = absurd (ok_not_err (V1, drop 4 bytes) f h)
    by_1 false h = by_2 (begins bytes V2) h

version_refused : (bytes : List ℕ) → ((version : BlockVersion) (rest : List ℕ) → bytes ≢ magic_of version ++ rest) → version_at bytes ≡ Err BadMagic
unfolding version_at
version_refused bytes none = by_1 (begins bytes V1) refl
  where
    by_2 : (b : Bool) → begins bytes V2 ≡ b → cond {A = Read BlockVersion} b (Ok (V2, drop 4 bytes)) (Err BadMagic) ≡ Err BadMagic
    by_2 true t = absurd (none V2 (drop 4 bytes) (begins_with V2 bytes (same_text (magic_of V2) (take 4 bytes) (sym t))))
    by_2 false t = refl

    by_1 : (b : Bool) → begins bytes V1 ≡ b → cond {A = Read BlockVersion} b (Ok (V1, drop 4 bytes)) (after_first bytes) ≡ Err BadMagic
    by_1 true t = absurd (none V1 (drop 4 bytes) (begins_with V1 bytes (same_text (magic_of V1) (take 4 bytes) (sym t))))
    by_1 false t = by_2 (begins bytes V2) refl

-- ---- what a block encodes, and what version 1 encodes after its own magic

pub as_first : (bytes rest : List ℕ) (b : Block) → Spells bytes b → bytes ≡ magic_of b.version ++ rest → first.Spells (first.magic ++ rest) (contents_of b)
as_first bytes rest b s e =
    let behind : rest ≡ header_fields b.header ++ first.txs_bytes (length b.txs) b.txs = append_cancel_left (magic_of b.version) rest (header_fields b.header ++ first.txs_bytes (length b.txs) b.txs) (sym e ∙ s.fields) in
    record { header = s.header; count = s.count; each = s.each; fields = ap (λ (t : List ℕ). first.magic ++ t) behind }

from_first : (version : BlockVersion) (rest : List ℕ) (c : first.Block) → first.Spells (first.magic ++ rest) c → Spells (magic_of version ++ rest) (with_version version c)
from_first version rest c s =
    let behind : rest ≡ header_fields c.header ++ first.txs_bytes (length c.txs) c.txs = append_cancel_left first.magic rest (header_fields c.header ++ first.txs_bytes (length c.txs) c.txs) s.fields in
    record { header = s.header; count = s.count; each = s.each; fields = ap (λ (t : List ℕ). magic_of version ++ t) behind }

-- ---- reading

abbrev finished : BlockVersion → first.Block → Result Block BlockFault
finished version c = Ok (with_version version c)

abbrev behind_magic : BlockVersion × List ℕ → Result Block BlockFault
behind_magic v = block_at (first.magic ++ v.1) >>= finished v.0

pub fits_behind : (bytes : List ℕ) (v : BlockVersion × List ℕ) → IsBytes bytes → bytes ≡ magic_of v.0 ++ v.1 → IsBytes (first.magic ++ v.1)
fits_behind bytes v fits e = by (IsBytes-behind (magic_of v.0) v.1 bytes fits e)
  where
    by : IsBytes v.1 → IsBytes (first.magic ++ v.1)
    by rest zero = omega arith
    by rest (suc zero) = omega arith
    by rest (suc (suc zero)) = omega arith
    by rest (suc (suc (suc zero))) = omega arith
    by rest (suc (suc (suc (suc i)))) = rest i

pub block_taken : (bytes : List ℕ) (x : Block) → IsBytes bytes → versioned_at bytes ≡ Ok x → Spells bytes x
unfolding versioned_at
block_taken bytes x fits e =
    let a = bind_ok (version_at bytes) behind_magic x e in
    let c = bind_ok (block_at (first.magic ++ a.0.1)) (finished a.0.0) x a.2 in
    let begins = version_taken bytes a.0 a.1 in
    let contents = old.block_taken (first.magic ++ a.0.1) c.0 (fits_behind bytes a.0 fits begins) c.1 in
    subst (λ (b : Block). Spells bytes b) (ok_is (with_version a.0.0 c.0) x c.2)
    (subst (λ (t : List ℕ). Spells t (with_version a.0.0 c.0)) (sym begins) (from_first a.0.0 a.0.1 c.0 contents))

read_behind : (version : BlockVersion) (rest : List ℕ) → versioned_at (magic_of version ++ rest) ≡ (block_at (first.magic ++ rest) >>= finished version)
unfolding versioned_at
read_behind version rest = ap (λ (r : Read BlockVersion). r >>= behind_magic) (version_again version rest)

pub block_again : (b : Block) (bytes : List ℕ) → Spells bytes b → versioned_at bytes ≡ Ok b
block_again b bytes s =
    let rest = header_fields b.header ++ first.txs_bytes (length b.txs) b.txs in
    ap versioned_at s.fields ∙ read_behind b.version rest
    ∙ ap (λ (r : Result first.Block BlockFault). r >>= finished b.version) (old.block_again (contents_of b) (first.magic ++ rest) (as_first bytes rest b s s.fields))

-- ---- faults

faulty_behind : (bytes : List ℕ) (v : BlockVersion × List ℕ) (f : BlockFault) → bytes ≡ magic_of v.0 ++ v.1 → first_faults.HasFault (first.magic ++ v.1) f → HasFault bytes f
faulty_behind bytes v BadMagic e h = absurd (h v.1 refl)
faulty_behind bytes v Truncated e h = (v.0, v.1, e, h)
faulty_behind bytes v PreviousLength e h = (v.0, v.1, e, h)
faulty_behind bytes v TooManyTxs e h = (v.0, v.1, e, h)
faulty_behind bytes v TxTooLong e h = (v.0, v.1, e, h)
faulty_behind bytes v TrailingBytes e h = (v.0, v.1, e, h)
faulty_behind bytes v Memory e h = absurd h

pub block_fails : (bytes : List ℕ) (f : BlockFault) → IsBytes bytes → versioned_at bytes ≡ Err f → HasFault bytes f
unfolding versioned_at
block_fails bytes f fits e = by (bind_err (version_at bytes) behind_magic f e)
  where
    behind : (v : BlockVersion × List ℕ) → version_at bytes ≡ Ok v
        → (block_at (first.magic ++ v.1) ≡ Err f) ⊎ ((c : first.Block) × (block_at (first.magic ++ v.1) ≡ Ok c) × (finished v.0 c ≡ Err f)) → HasFault bytes f
    behind v read (inl k) = let begins = version_taken bytes v read in faulty_behind bytes v f begins (old_faults.block_fails (first.magic ++ v.1) f (fits_behind bytes v fits begins) k)
    behind v read (inr k) = absurd (ok_not_err (with_version v.0 k.0) f k.2)

    by : (version_at bytes ≡ Err f) ⊎ ((v : BlockVersion × List ℕ) × (version_at bytes ≡ Ok v) × (behind_magic v ≡ Err f)) → HasFault bytes f
    by (inl k) =
        subst (λ (g : BlockFault). HasFault bytes g) (sym (version_fails bytes f k))
        (λ version rest same. ok_not_err (version, rest) f (sym (version_again version rest) ∙ ap version_at (sym same) ∙ k))
    by (inr k) = behind k.0 k.1 (bind_err (block_at (first.magic ++ k.0.1)) (finished k.0.0) f k.2)

fails_behind : (bytes : List ℕ) (f : BlockFault) → HasFaultBehind bytes f → versioned_at bytes ≡ Err f
fails_behind bytes f h =
    ap versioned_at h.2 ∙ read_behind h.0 h.1
    ∙ ap (λ (r : Result first.Block BlockFault). r >>= finished h.0) (old_again.block_fails_again (first.magic ++ h.1) f h.3)

pub block_fails_again : (bytes : List ℕ) (f : BlockFault) → HasFault bytes f → versioned_at bytes ≡ Err f
unfolding versioned_at
block_fails_again bytes BadMagic h = ap (λ (r : Read BlockVersion). r >>= behind_magic) (version_refused bytes h)
block_fails_again bytes Truncated h = fails_behind bytes Truncated h
block_fails_again bytes PreviousLength h = fails_behind bytes PreviousLength h
block_fails_again bytes TooManyTxs h = fails_behind bytes TooManyTxs h
block_fails_again bytes TxTooLong h = fails_behind bytes TxTooLong h
block_fails_again bytes TrailingBytes h = fails_behind bytes TrailingBytes h
block_fails_again bytes Memory h = absurd h
