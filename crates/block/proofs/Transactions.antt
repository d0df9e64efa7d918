-- Reading transactions one after the other, as a loop does.
use Rattle.std.proofs.Common.{◌≡◌, ℕ, suc, ◌-◌, ◌+◌, ◌≤◌, ◌<◌, List, [], ◌∷◌, ◌++◌, Ok, Err, refl, sym, ap, ◌∙◌, append_assoc, arith}
use Rattle.std.proofs.lemmas.List.{append-nil}
use Rattle.block.specs.declared.fault.BlockFault.{BlockFault}
use Rattle.block.specs.declared.fault.BlockFault.TheVariants.{BadMagic, Truncated, PreviousLength, TooManyTxs, TxTooLong, TrailingBytes, Memory}
use Rattle.block.specs.Reading.{◌>>=◌, Read, Fails, tx_at, txs_at}

abbrev Txs : Type 0
Txs = List (List ℕ)

-- what was read before, and what is still read
abbrev pub with_front : List (List ℕ) → Read (List (List ℕ)) → Read (List (List ℕ))
with_front front read = read >>= λ x. Ok (front ++ x.0, x.1)

regroup : (front : Txs) (tx : List ℕ) (read : Read Txs) → with_front front (read >>= λ x. Ok (tx ∷ x.0, x.1)) ≡ with_front (front ++ tx ∷ []) read
regroup front tx (Ok x) = ap (λ (txs : Txs). Ok (txs, x.1)) (simp append_assoc)
regroup front tx (Err f) = refl

pub goes_on : (front : Txs) (count i : ℕ) (bytes tx after : List ℕ) (total : Read Txs) → i < count → tx_at bytes ≡ Ok (tx, after)
    → with_front front (txs_at (count - i) bytes) ≡ total → with_front (front ++ tx ∷ []) (txs_at (count - (i + 1)) after) ≡ total
unfolding txs_at
goes_on front count i bytes tx after total lt h so_far =
    let k : count - i ≡ suc (count - (i + 1)) = omega arith in
    let one : with_front front (txs_at (count - i) bytes) ≡ with_front (front ++ tx ∷ []) (txs_at (count - (i + 1)) after) = rw (k, h) (regroup front tx (txs_at (count - (i + 1)) after)) in
    sym one ∙ so_far

fails_all : (e : BlockFault) (front : Txs) (count i : ℕ) (bytes : List ℕ) (total : Read Txs) → i < count → tx_at bytes ≡ Err e
    → with_front front (txs_at (count - i) bytes) ≡ total → total ≡ Err e
unfolding txs_at
fails_all e front count i bytes total lt h so_far =
    let k : count - i ≡ suc (count - (i + 1)) = omega arith in
    let one : with_front front (txs_at (count - i) bytes) ≡ Err e = rw (k, h) refl in
    sym so_far ∙ one

pub ends : (e : BlockFault) (front : Txs) (count i : ℕ) (bytes : List ℕ) (total : Read Txs) → i < count → Fails e (tx_at bytes)
    → with_front front (txs_at (count - i) bytes) ≡ total → Fails e total
ends BadMagic front count i bytes total lt h so_far = fails_all _ front count i bytes total lt h so_far
ends Truncated front count i bytes total lt h so_far = fails_all _ front count i bytes total lt h so_far
ends PreviousLength front count i bytes total lt h so_far = fails_all _ front count i bytes total lt h so_far
ends TooManyTxs front count i bytes total lt h so_far = fails_all _ front count i bytes total lt h so_far
ends TxTooLong front count i bytes total lt h so_far = fails_all _ front count i bytes total lt h so_far
ends TrailingBytes front count i bytes total lt h so_far = fails_all _ front count i bytes total lt h so_far
ends Memory front count i bytes total lt h so_far = tt

pub is_done : (front : Txs) (count i : ℕ) (bytes : List ℕ) (total : Read Txs) → count ≤ i → with_front front (txs_at (count - i) bytes) ≡ total → total ≡ Ok (front, bytes)
unfolding txs_at
is_done front count i bytes total le so_far =
    let k : count - i ≡ 0 = omega arith in
    let one : with_front front (txs_at (count - i) bytes) ≡ Ok (front, bytes) = rw k (ap (λ (txs : Txs). Ok (txs, bytes)) (append-nil front)) in
    sym so_far ∙ one
