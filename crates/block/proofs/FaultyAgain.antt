-- Bytes that have a fault are rejected with it.
use Rattle.std.proofs.Common.{◌≡◌, ◌≢◌, ℕ, zero, suc, ◌^◌, ◌<◌, ◌≤◌, Bool, true, false, cond, List, [], ◌∷◌, ◌++◌, length, drop, Result, Ok, Err, refl, ap, ◌∙◌, append_assoc, arith}
use Rattle.std.specs.Prelude.{nat_eq}
use Rattle.std.specs.List.{starts_with, flat_map, AllByRecursion}
use Rattle.std.proofs.lemmas.Bool.{ne_eqb, lt-ltb, le-ltb}
use Rattle.std.proofs.lemmas.List.{nil_from_length}
use Rattle.byteorder.specs.Endian.{big_bytes}
use Rattle.block.specs.declared.block.Header.{Header}
use Rattle.block.specs.declared.block.Previous.{Previous}
use Rattle.block.specs.declared.block.Previous.TheVariants.{Empty}
use Rattle.values.specs.Hash.{hash_bytes}
use Rattle.transaction.specs.Limits.{max_tx_bytes}
use Rattle.block.specs.Limits.{max_txs}
use Rattle.block.specs.declared.fault.BlockFault.{BlockFault}
use Rattle.block.specs.declared.fault.BlockFault.TheVariants.{BadMagic, Truncated, PreviousLength, TooManyTxs, TxTooLong, TrailingBytes, Memory}
use Rattle.block.specs.first_version.Grammar.{magic, previous_bytes, header_bytes, tx_bytes, txs_bytes, IsPrevious, IsHeader, IsTx}
use Rattle.block.specs.first_version.Faults.{Field, number, previous_length, previous_hash, data_hash, count, tx_length, tx, before, size, IsReached, HasFault}
use Rattle.block.specs.Reading.{◌>>=◌, Read, bytes_at, magic_at, previous_at, header_at, count_at, tx_at, txs_at, block_at}
use Rattle.block.proofs.Rests.{Txs, hash_or_fault, as_hash, as_header, after_previous, after_number, after_magic, count_or_fault, tx_or_fault, in_front, after_tx, ended, after_count, after_header}
use Rattle.block.proofs.Fields.{bytes_fail_again, number_again, number_fails_again}
use Rattle.block.proofs.Headers.{magic_taken, previous_again, header_again}
use Rattle.block.proofs.Blocks.{count_again, tx_again, tx_in_front, front_again}

magic_refused : (bytes : List ℕ) (b : Bool) → starts_with nat_eq bytes magic ≡ b → ((rest : List ℕ) → bytes ≢ magic ++ rest) → cond b (Ok (drop 4 bytes)) (Err BadMagic) ≡ Err BadMagic
magic_refused bytes false t h = refl
magic_refused bytes true t h =
    let read : magic_at bytes ≡ Ok (drop 4 bytes) = ap (λ (b : Bool). cond b (Ok (drop 4 bytes)) (Err BadMagic)) t in
    absurd (h (drop 4 bytes) (magic_taken bytes (drop 4 bytes) read))

-- ---- what is read after fields that can be read

at_number : (rest : List ℕ) → block_at (magic ++ rest) ≡ (after_magic rest >>= after_header)
unfolding block_at header_at
at_number rest = refl

at_previous : (n : ℕ) (rest : List ℕ) → n < 2 ^ 64 → block_at ((magic ++ big_bytes 8 n) ++ rest) ≡ (after_number (n, rest) >>= after_header)
at_previous n rest lt =
    ap block_at (append_assoc magic (big_bytes 8 n) rest) ∙ at_number (big_bytes 8 n ++ rest)
    ∙ ap (λ (r : Read ℕ). (r >>= after_number) >>= after_header) (number_again 8 n rest lt)

at_data : (n : ℕ) (p : Previous) (rest : List ℕ) → n < 2 ^ 64 → IsPrevious p → block_at ((magic ++ big_bytes 8 n ++ previous_bytes p) ++ rest) ≡ (after_previous n (p, rest) >>= after_header)
at_data n p rest lt fine =
    ap block_at (append_assoc (magic ++ big_bytes 8 n) (previous_bytes p) rest) ∙ at_previous n (previous_bytes p ++ rest) lt
    ∙ ap (λ (r : Read Previous). (r >>= after_previous n) >>= after_header) (previous_again p rest fine)

at_count : (h : Header) (rest : List ℕ) → IsHeader h → block_at (header_bytes h ++ rest) ≡ after_header (h, rest)
unfolding block_at
at_count h rest fine = ap (λ (r : Read Header). r >>= after_header) (header_again h rest fine)

at_txs : (h : Header) (n : ℕ) (rest : List ℕ) → IsHeader h → n ≤ max_txs → block_at (header_bytes h ++ (big_bytes 4 n ++ rest)) ≡ after_count h (n, rest)
at_txs h n rest fine few = at_count h (big_bytes 4 n ++ rest) fine ∙ ap (λ (r : Read ℕ). r >>= after_count h) (count_again n rest few)

txs_fail_again : (txs : Txs) (n : ℕ) (rest : List ℕ) (f : BlockFault) → length txs < n → AllByRecursion IsTx txs → tx_at rest ≡ Err f → txs_at n (flat_map tx_bytes txs ++ rest) ≡ Err f
unfolding txs_at
txs_fail_again txs zero rest f lt each e = absurd (omega arith)
txs_fail_again [] (suc n) rest f lt each e = ap (λ (r : Read (List ℕ)). r >>= after_tx n) e
txs_fail_again (first ∷ txs) (suc n) rest f lt each e =
    ap (txs_at (suc n)) (tx_in_front first txs rest)
    ∙ ap (λ (r : Read (List ℕ)). r >>= after_tx n) (tx_again first (flat_map tx_bytes txs ++ rest) each.0)
    ∙ ap (λ (r : Read Txs). r >>= in_front first) (txs_fail_again txs n rest f (omega arith) each.1 e)

regroup : (a b c d : List ℕ) → (a ++ (b ++ c)) ++ d ≡ a ++ (b ++ (c ++ d))
regroup a b c d = simp append_assoc

at_tx : (h : Header) (n : ℕ) (txs : Txs) (rest : List ℕ) (f : BlockFault) → IsReached (tx_length h n txs) → tx_at rest ≡ Err f → block_at ((header_bytes h ++ txs_bytes n txs) ++ rest) ≡ Err f
at_tx h n txs rest f reached e =
    ap block_at (regroup (header_bytes h) (big_bytes 4 n) (flat_map tx_bytes txs) rest) ∙ at_txs h n (flat_map tx_bytes txs ++ rest) reached.0 reached.1
    ∙ ap (λ (r : Read Txs). r >>= ended h) (txs_fail_again txs n rest f reached.2 reached.3 e)

-- ---- fields that fewer bytes remain for

hash_cut : (rest : List ℕ) → length rest < hash_bytes → previous_at (hash_bytes ∷ rest) ≡ Err Truncated
unfolding previous_at
hash_cut rest lt = ap (λ (r : Read (List ℕ)). r >>= as_hash) (bytes_fail_again hash_bytes rest lt)

none_left : (rest : List ℕ) → length rest < 1 → previous_at rest ≡ Err Truncated
unfolding previous_at
none_left rest lt = ap previous_at (nil_from_length rest (omega arith))

tx_cut : (len : ℕ) (rest : List ℕ) → len ≤ max_tx_bytes → length rest < len → tx_at (big_bytes 4 len ++ rest) ≡ Err Truncated
unfolding tx_at
tx_cut len rest small lt =
    ap (λ (r : Read ℕ). r >>= tx_or_fault) (number_again 4 len rest (omega arith)) ∙ ap (λ (b : Bool). cond b (Err TxTooLong) (bytes_at len rest)) (le-ltb max_tx_bytes len small)
    ∙ bytes_fail_again len rest lt

tx_length_cut : (rest : List ℕ) → length rest < 4 → tx_at rest ≡ Err Truncated
unfolding tx_at
tx_length_cut rest lt = ap (λ (r : Read ℕ). r >>= tx_or_fault) (number_fails_again 4 rest lt)

count_cut : (rest : List ℕ) → length rest < 4 → count_at rest ≡ Err Truncated
unfolding count_at
count_cut rest lt = ap (λ (r : Read ℕ). r >>= count_or_fault) (number_fails_again 4 rest lt)

cut : (field : Field) (rest : List ℕ) → IsReached field → length rest < size field → block_at (before field ++ rest) ≡ Err Truncated
cut number rest reached lt = at_number rest ∙ ap (λ (r : Read ℕ). (r >>= after_number) >>= after_header) (number_fails_again 8 rest lt)
cut (previous_length n) rest reached lt = at_previous n rest reached ∙ ap (λ (r : Read Previous). (r >>= after_previous n) >>= after_header) (none_left rest lt)
cut (previous_hash n) rest reached lt =
    ap block_at (append_assoc (magic ++ big_bytes 8 n) (hash_bytes ∷ []) rest) ∙ at_previous n (hash_bytes ∷ rest) reached
    ∙ ap (λ (r : Read Previous). (r >>= after_previous n) >>= after_header) (hash_cut rest lt)
cut (data_hash n p) rest reached lt = at_data n p rest reached.0 reached.1 ∙ ap (λ (r : Read (List ℕ)). (r >>= as_header n p) >>= after_header) (bytes_fail_again hash_bytes rest lt)
cut (count h) rest reached lt = at_count h rest reached ∙ ap (λ (r : Read ℕ). r >>= after_count h) (count_cut rest lt)
cut (tx_length h n txs) rest reached lt = at_tx h n txs rest Truncated reached (tx_length_cut rest lt)
cut (tx h n txs len) rest reached lt =
    ap block_at (append_assoc (header_bytes h ++ txs_bytes n txs) (big_bytes 4 len) rest)
    ∙ at_tx h n txs (big_bytes 4 len ++ rest) Truncated (reached.0, reached.1, reached.2, reached.3) (tx_cut len rest reached.4 lt)

-- ---- fields over their limits

other_length : (len : ℕ) (rest : List ℕ) → len ≢ 0 → len ≢ hash_bytes → previous_at (len ∷ rest) ≡ Err PreviousLength
unfolding previous_at
other_length len rest not_0 not_32 = ap (λ (b : Bool). cond b (Ok (Empty, rest)) (hash_or_fault len rest)) (ne_eqb _ _ not_0) ∙ ap (λ (b : Bool). cond b (bytes_at hash_bytes rest >>= as_hash) (Err PreviousLength)) (ne_eqb _ _ not_32)

count_over : (n : ℕ) (rest : List ℕ) → n < 2 ^ 32 → max_txs < n → count_at (big_bytes 4 n ++ rest) ≡ Err TooManyTxs
unfolding count_at
count_over n rest lt over = ap (λ (r : Read ℕ). r >>= count_or_fault) (number_again 4 n rest lt) ∙ ap (λ (b : Bool). cond b (Err TooManyTxs) (Ok (n, rest))) (lt-ltb max_txs n over)

tx_over : (len : ℕ) (rest : List ℕ) → len < 2 ^ 32 → max_tx_bytes < len → tx_at (big_bytes 4 len ++ rest) ≡ Err TxTooLong
unfolding tx_at
tx_over len rest lt over = ap (λ (r : Read ℕ). r >>= tx_or_fault) (number_again 4 len rest lt) ∙ ap (λ (b : Bool). cond b (Err TxTooLong) (bytes_at len rest)) (lt-ltb max_tx_bytes len over)

-- ---- all faults

pub block_fails_again : (bytes : List ℕ) (f : BlockFault) → HasFault bytes f → block_at bytes ≡ Err f
unfolding block_at header_at
block_fails_again bytes BadMagic h = ap (λ (r : Result (List ℕ) BlockFault). (r >>= after_magic) >>= after_header) (magic_refused bytes (starts_with nat_eq bytes magic) refl h)
block_fails_again bytes Truncated h = ap block_at h.2.1 ∙ cut h.0 h.1 h.2.0 h.3
block_fails_again bytes PreviousLength h =
    ap block_at h.3.1 ∙ at_previous h.0 (h.1 ∷ h.2) h.3.0 ∙ ap (λ (r : Read Previous). (r >>= after_previous h.0) >>= after_header) (other_length h.1 h.2 h.4 h.5)
block_fails_again bytes TooManyTxs h =
    ap block_at h.3.1 ∙ at_count h.0 (big_bytes 4 h.1 ++ h.2) h.3.0 ∙ ap (λ (r : Read ℕ). r >>= after_count h.0) (count_over h.1 h.2 h.4 h.5)
block_fails_again bytes TxTooLong h = ap block_at h.5.1 ∙ at_tx h.0 h.1 h.2 (big_bytes 4 h.3 ++ h.4) TxTooLong h.5.0 (tx_over h.3 h.4 h.6 h.7)
block_fails_again bytes TrailingBytes h =
    ap block_at h.4 ∙ front_again h.0 h.1 h.2 h.3 ∙ ap (λ (b : Bool). cond b (Ok h.0) (Err TrailingBytes)) (ne_eqb _ _ (λ z. absurd (omega (arith, h.5))))
block_fails_again bytes Memory h = absurd h
