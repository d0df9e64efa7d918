-- The fault that reading meets is that of the first field that can't be read.
use Rattle.std.proofs.Common.{◌≡◌, ◌⊎◌, ℕ, zero, suc, ◌^◌, ◌<◌, ◌≤◌, Bool, true, false, cond, eqb, ltb, List, [], ◌∷◌, ◌++◌, length, drop, Ok, Err, refl, sym, ap, subst, ◌∙◌, append_assoc, arith, inl, inr}
use Rattle.std.specs.Prelude.{nat_eq}
use Rattle.std.specs.List.{starts_with, flat_map, AllByRecursion}
use Rattle.std.proofs.lemmas.Bool.{eqb-true, eqb-false, ltb-true, ltb-false}
use Rattle.byteorder.specs.Endian.{big_bytes}
use Rattle.block.specs.declared.block.Header.{Header}
use Rattle.block.specs.declared.block.Previous.{Previous}
use Rattle.block.specs.declared.block.Previous.TheVariants.{Empty, Hash}
use Rattle.values.specs.Hash.{hash_bytes}
use Rattle.transaction.specs.Limits.{max_tx_bytes}
use Rattle.block.specs.Limits.{max_txs}
use Rattle.block.specs.declared.fault.BlockFault.{BlockFault}
use Rattle.block.specs.declared.fault.BlockFault.TheVariants.{BadMagic, Truncated, PreviousLength, TooManyTxs, TxTooLong, TrailingBytes}
use Rattle.block.specs.first_version.Grammar.{magic, previous_bytes, header_bytes, tx_bytes, txs_bytes, IsHeader, IsTx, Spells}
use Rattle.block.specs.first_version.Faults.{Field, number, previous_length, previous_hash, data_hash, count, tx_length, tx, size, IsReached, Reaches, HasFault}
use Rattle.block.specs.Reading.{◌>>=◌, number_at, bytes_at, magic_at, previous_at, header_at, count_at, tx_at, txs_at, block_at}
use Rattle.block.proofs.Steps.{bind_err, refused_err, taken_err, ok_not_err}
use Rattle.block.proofs.Rests.{Txs, as_hash, hash_or_fault, as_header, after_previous, after_number, after_magic, count_or_fault, tx_or_fault, in_front, after_tx, ended, after_count, after_header}
use Rattle.values.proofs.Numbers.{IsBytes, IsBytes-behind, wide4, wide8}
use Rattle.block.proofs.Fields.{bytes_fail, number_taken, number_fails}
use Rattle.block.proofs.Headers.{magic_taken, magic_again, previous_taken, header_taken}
use Rattle.block.proofs.Blocks.{count_taken, tx_taken, txs_taken, AreTaken, tx_in_front}

-- fewer bytes remain than a field has
short : (bytes : List ℕ) (field : Field) (rest : List ℕ) (f : BlockFault) → Reaches bytes field rest → (Truncated ≡ f) × (length rest < size field) → HasFault bytes f
short bytes field rest f reached e = subst (λ (g : BlockFault). HasFault bytes g) e.0 (field, rest, reached, e.1)

magic_fails : (bytes : List ℕ) (f : BlockFault) → magic_at bytes ≡ Err f → HasFault bytes f
magic_fails bytes f e =
    let g = taken_err (starts_with nat_eq bytes magic) BadMagic f (drop 4 bytes) e in
    subst (λ (g : BlockFault). HasFault bytes g) g.1 (λ rest same. ok_not_err rest f (sym (magic_again rest) ∙ ap magic_at (sym same) ∙ e))

-- joined two and three at a time
two : (a b rest bytes behind : List ℕ) → bytes ≡ a ++ behind → behind ≡ b ++ rest → bytes ≡ (a ++ b) ++ rest
two a b rest bytes behind e f = e ∙ ap (λ (t : List ℕ). a ++ t) f ∙ sym (append_assoc a b rest)

previous_fails_len : (bytes : List ℕ) (n len : ℕ) (rest : List ℕ) (f : BlockFault) → n < 2 ^ 64 → bytes ≡ (magic ++ big_bytes 8 n) ++ (len ∷ rest)
    → previous_at (len ∷ rest) ≡ Err f → HasFault bytes f
unfolding previous_at
previous_fails_len bytes n len rest f lt e h = empty (eqb len 0) refl h
  where
    hash : (b : Bool) → eqb len 0 ≡ false → eqb len hash_bytes ≡ b → cond b (bytes_at hash_bytes rest >>= as_hash) (Err PreviousLength) ≡ Err f → HasFault bytes f
    hash true z t h =
        elim (bind_err (bytes_at hash_bytes rest) as_hash f h) [
          | inl k ↦
              let is : len ≡ hash_bytes = eqb-true _ _ t in
              let at : bytes ≡ (magic ++ big_bytes 8 n ++ hash_bytes ∷ []) ++ rest = e ∙ ap (λ (m : ℕ). (magic ++ big_bytes 8 n) ++ (m ∷ rest)) is ∙ sym (append_assoc (magic ++ big_bytes 8 n) (hash_bytes ∷ []) rest) in
              short bytes (previous_hash n) rest f (lt, at) (bytes_fail hash_bytes rest f k)
          | inr k ↦ absurd (ok_not_err (Hash k.0.0, k.0.1) f k.2)
        ]
    hash false z t h =
        let same : PreviousLength ≡ f = cc in
        subst (λ (g : BlockFault). HasFault bytes g) same (n, len, rest, (lt, e), eqb-false _ _ z, eqb-false _ _ t)

    empty : (b : Bool) → eqb len 0 ≡ b → cond b (Ok (Empty, rest)) (hash_or_fault len rest) ≡ Err f → HasFault bytes f
    empty true t h = absurd (ok_not_err (Empty, rest) f h)
    empty false t h = hash (eqb len hash_bytes) t refl h

previous_fails : (bytes : List ℕ) (n : ℕ) (rest : List ℕ) (f : BlockFault) → n < 2 ^ 64 → bytes ≡ (magic ++ big_bytes 8 n) ++ rest → previous_at rest ≡ Err f → HasFault bytes f
unfolding previous_at
previous_fails bytes n [] f lt e h =
    let same : Truncated ≡ f = cc in
    short bytes (previous_length n) [] f (lt, e) (same, omega arith)
previous_fails bytes n (len ∷ rest) f lt e h = previous_fails_len bytes n len rest f lt e h

header_fails : (bytes : List ℕ) (f : BlockFault) → IsBytes bytes → header_at bytes ≡ Err f → HasFault bytes f
unfolding header_at
header_fails bytes f fits e = at_magic (bind_err (magic_at bytes) after_magic f e)
  where
    at_data : (n : ℕ) (r : List ℕ) (p : Previous × List ℕ) → n < 2 ^ 64 → bytes ≡ (magic ++ big_bytes 8 n) ++ r → previous_at r ≡ Ok p
        → after_previous n p ≡ Err f → HasFault bytes f
    at_data n r p lt e h k =
        let read = previous_taken r p h in
        let at : bytes ≡ (magic ++ big_bytes 8 n ++ previous_bytes p.0) ++ p.1 = two (magic ++ big_bytes 8 n) (previous_bytes p.0) p.1 bytes r e read.0 in
        elim (bind_err (bytes_at hash_bytes p.1) (as_header n p.0) f k) [
          | inl h ↦ short bytes (data_hash n p.0) p.1 f ((lt, read.1), at) (bytes_fail hash_bytes p.1 f h)
          | inr h ↦ absurd (ok_not_err (record { number = n; previous = p.0; data_hash = h.0.0 }, h.0.1) f h.2)
        ]

    at_previous : (n : ℕ) (r : List ℕ) → n < 2 ^ 64 → bytes ≡ (magic ++ big_bytes 8 n) ++ r
        → after_number (n, r) ≡ Err f → HasFault bytes f
    at_previous n r lt e h =
        elim (bind_err (previous_at r) (after_previous n) f h) [
          | inl k ↦ previous_fails bytes n r f lt e k
          | inr k ↦ at_data n r k.0 lt e k.1 k.2
        ]

    at_number : (r : List ℕ) → bytes ≡ magic ++ r
        → after_magic r ≡ Err f → HasFault bytes f
    at_number r e h =
        elim (bind_err (number_at 8 r) after_number f h) [
          | inl k ↦ short bytes number r f (tt, e) (number_fails 8 r f k)
          | inr k ↦
              let read = number_taken 8 wide8 r k.0 (IsBytes-behind magic r bytes fits e) k.1 in
              at_previous k.0.0 k.0.1 read.1 (two magic (big_bytes 8 k.0.0) k.0.1 bytes r e read.0) k.2
        ]

    at_magic : ((magic_at bytes ≡ Err f) ⊎ ((r : List ℕ) × (magic_at bytes ≡ Ok r) × (after_magic r ≡ Err f))) → HasFault bytes f
    at_magic (inl h) = magic_fails bytes f h
    at_magic (inr h) = at_number h.0 (magic_taken bytes h.0 h.1) h.2

count_fails : (bytes : List ℕ) (h : Header) (rest : List ℕ) (f : BlockFault) → IsBytes rest → IsHeader h → bytes ≡ header_bytes h ++ rest → count_at rest ≡ Err f → HasFault bytes f
unfolding count_at
count_fails bytes h rest f fits fine e k =
    elim (bind_err (number_at 4 rest) count_or_fault f k) [
      | inl k ↦ short bytes (count h) rest f (fine, e) (number_fails 4 rest f k)
      | inr k ↦ over k.0 (number_taken 4 wide4 rest k.0 fits k.1) (refused_err (ltb max_txs k.0.0) TooManyTxs f (Ok k.0) k.2)
    ]
  where
    over : (n : ℕ × List ℕ) → (rest ≡ big_bytes 4 n.0 ++ n.1) × (n.0 < 256 ^ 4) → ((ltb max_txs n.0 ≡ true) × (TooManyTxs ≡ f)) ⊎ ((ltb max_txs n.0 ≡ false) × (Ok n ≡ Err f)) → HasFault bytes f
    over n read (inl g) = subst (λ (g : BlockFault). HasFault bytes g) g.1 (h, n.0, n.1, (fine, e ∙ ap (λ (t : List ℕ). header_bytes h ++ t) read.0), read.1, ltb-true _ _ g.0)
    over n read (inr g) = absurd (ok_not_err n f g.1)

-- some of n transactions can be read, and the next one can't
abbrev LacksOne : ℕ → List ℕ → BlockFault → Type 0
LacksOne n bytes f = (txs : Txs) × (rest : List ℕ) × (length txs < n) × AllByRecursion IsTx txs × (bytes ≡ flat_map tx_bytes txs ++ rest) × IsBytes rest × (tx_at rest ≡ Err f)

txs_fail : (n : ℕ) (bytes : List ℕ) (f : BlockFault) → IsBytes bytes → txs_at n bytes ≡ Err f
    → LacksOne n bytes f
unfolding txs_at
txs_fail zero bytes f fits e = absurd (ok_not_err ([], bytes) f e)
txs_fail (suc n) bytes f fits e =
    elim (bind_err (tx_at bytes) (after_tx n) f e) [
      | inl k ↦ ([], bytes, omega arith, tt, refl, fits, k)
      | inr k ↦ later (λ b. txs_fail n b f) k.0 (tx_taken bytes k.0 fits k.1) (bind_err (txs_at n k.0.1) (in_front k.0.0) f k.2)
    ]
  where
    later : ((b : List ℕ) → IsBytes b → txs_at n b ≡ Err f → LacksOne n b f) → (x : List ℕ × List ℕ) → (bytes ≡ tx_bytes x.0 ++ x.1) × IsTx x.0
        → (txs_at n x.1 ≡ Err f) ⊎ ((y : Txs × List ℕ) × (txs_at n x.1 ≡ Ok y) × (in_front x.0 y ≡ Err f))
        → LacksOne (suc n) bytes f
    later again x read (inl k) =
        let others = again x.1 (IsBytes-behind (tx_bytes x.0) x.1 bytes fits read.0) k in
        (x.0 ∷ others.0, others.1, omega (arith, others.2), (read.1, others.3), read.0 ∙ ap (λ (t : List ℕ). tx_bytes x.0 ++ t) others.4 ∙ sym (tx_in_front x.0 others.0 others.1), others.5, others.6)
    later again x read (inr k) = absurd (ok_not_err (x.0 ∷ k.0.0, k.0.1) f k.2)

tx_fails : (bytes : List ℕ) (h : Header) (n : ℕ) (txs : Txs) (rest : List ℕ) (f : BlockFault) → IsBytes rest → IsReached (tx_length h n txs) → bytes ≡ (header_bytes h ++ txs_bytes n txs) ++ rest → tx_at rest ≡ Err f → HasFault bytes f
unfolding tx_at
tx_fails bytes h n txs rest f fits reached e k =
    elim (bind_err (number_at 4 rest) tx_or_fault f k) [
      | inl k ↦ short bytes (tx_length h n txs) rest f (reached, e) (number_fails 4 rest f k)
      | inr k ↦ over k.0 (number_taken 4 wide4 rest k.0 fits k.1) (refused_err (ltb max_tx_bytes k.0.0) TxTooLong f (bytes_at k.0.0 k.0.1) k.2)
    ]
  where
    over : (len : ℕ × List ℕ) → (rest ≡ big_bytes 4 len.0 ++ len.1) × (len.0 < 256 ^ 4) → ((ltb max_tx_bytes len.0 ≡ true) × (TxTooLong ≡ f)) ⊎ ((ltb max_tx_bytes len.0 ≡ false) × (bytes_at len.0 len.1 ≡ Err f)) → HasFault bytes f
    over len read (inl g) =
        subst (λ (g : BlockFault). HasFault bytes g) g.1 (h, n, txs, len.0, len.1, (reached, e ∙ ap (λ (t : List ℕ). (header_bytes h ++ txs_bytes n txs) ++ t) read.0), read.1, ltb-true _ _ g.0)
    over len read (inr g) =
        let small : len.0 ≤ max_tx_bytes = ltb-false _ _ g.0 in
        let at : bytes ≡ (header_bytes h ++ txs_bytes n txs ++ big_bytes 4 len.0) ++ len.1 = two (header_bytes h ++ txs_bytes n txs) (big_bytes 4 len.0) len.1 bytes rest e read.0 in
        short bytes (tx h n txs len.0) len.1 f ((reached.0, reached.1, reached.2, reached.3, small), at) (bytes_fail len.0 len.1 f g.1)

-- three joined, the last two of them together
behind_header : (a b c rest bytes r s : List ℕ) → bytes ≡ a ++ r → r ≡ b ++ s → s ≡ c ++ rest → bytes ≡ (a ++ (b ++ c)) ++ rest
behind_header a b c rest bytes r s e f g = e ∙ ap (λ (t : List ℕ). a ++ t) (f ∙ ap (λ (t : List ℕ). b ++ t) g) ∙ (simp append_assoc)

pub block_fails : (bytes : List ℕ) (f : BlockFault) → IsBytes bytes → block_at bytes ≡ Err f → HasFault bytes f
unfolding block_at
block_fails bytes f fits e = at_header (bind_err (header_at bytes) after_header f e)
  where
    at_end : (h : Header) (n : ℕ) (r s : List ℕ) (x : Txs × List ℕ) → IsHeader h → n ≤ max_txs → bytes ≡ header_bytes h ++ r → r ≡ big_bytes 4 n ++ s → AreTaken n s x.0 x.1
        → ended h x ≡ Err f → HasFault bytes f
    at_end h n r s x fine few e d taken k =
        let g = taken_err (eqb (length x.1) 0) TrailingBytes f (record { header = h; txs = x.0 }) k in
        let some : 0 < length x.1 = omega (arith, eqb-false _ _ g.0) in
        let front : List ℕ = header_bytes h ++ txs_bytes (length x.0) x.0 in
        let at : bytes ≡ front ++ x.1 =
        behind_header (header_bytes h) (big_bytes 4 n) (flat_map tx_bytes x.0) x.1 bytes r s e d taken.parts
        ∙ ap (λ (m : ℕ). (header_bytes h ++ (big_bytes 4 m ++ flat_map tx_bytes x.0)) ++ x.1) (sym taken.len) in
        let spells : Spells front (record { header = h; txs = x.0 }) = record { header = fine; count = omega (arith, taken.len); each = taken.each; fields = refl } in
        subst (λ (g : BlockFault). HasFault bytes g) g.1 (record { header = h; txs = x.0 }, front, x.1, spells, at, some)

    at_tx : (h : Header) (n : ℕ) (r s : List ℕ) → IsHeader h → n ≤ max_txs → bytes ≡ header_bytes h ++ r → r ≡ big_bytes 4 n ++ s → LacksOne n s f → HasFault bytes f
    at_tx h n r s fine few e d lacks =
        tx_fails bytes h n lacks.0 lacks.1 f lacks.5 (fine, few, lacks.2, lacks.3) (behind_header (header_bytes h) (big_bytes 4 n) (flat_map tx_bytes lacks.0) lacks.1 bytes r s e d lacks.4) lacks.6

    at_txs : (h : Header) (r : List ℕ) (n : ℕ × List ℕ) → IsBytes n.1 → IsHeader h → n.0 ≤ max_txs → bytes ≡ header_bytes h ++ r → r ≡ big_bytes 4 n.0 ++ n.1
        → (txs_at n.0 n.1 ≡ Err f) ⊎ ((x : Txs × List ℕ) × (txs_at n.0 n.1 ≡ Ok x) × (ended h x ≡ Err f)) → HasFault bytes f
    at_txs h r n fits fine few e d (inl k) = at_tx h n.0 r n.1 fine few e d (txs_fail n.0 n.1 f fits k)
    at_txs h r n fits fine few e d (inr k) = at_end h n.0 r n.1 k.0 fine few e d (txs_taken n.0 n.1 k.0 fits k.1) k.2

    at_count : (h : Header) (r : List ℕ) → IsBytes r → IsHeader h → bytes ≡ header_bytes h ++ r
        → (count_at r ≡ Err f) ⊎ ((n : ℕ × List ℕ) × (count_at r ≡ Ok n) × (after_count h n ≡ Err f)) → HasFault bytes f
    at_count h r fits fine e (inl k) = count_fails bytes h r f fits fine e k
    at_count h r fits fine e (inr k) =
        let read = count_taken r k.0 fits k.1 in
        at_txs h r k.0 (IsBytes-behind (big_bytes 4 k.0.0) k.0.1 r fits read.0) fine read.1 e read.0 (bind_err (txs_at k.0.0 k.0.1) (ended h) f k.2)

    at_header : (header_at bytes ≡ Err f) ⊎ ((h : Header × List ℕ) × (header_at bytes ≡ Ok h) × (after_header h ≡ Err f)) → HasFault bytes f
    at_header (inl k) = header_fails bytes f fits k
    at_header (inr k) =
        let read = header_taken bytes k.0 fits k.1 in
        at_count k.0.0 k.0.1 (IsBytes-behind (header_bytes k.0.0) k.0.1 bytes fits read.0) read.1 read.0 (bind_err (count_at k.0.1) (after_count k.0.0) f k.2)
