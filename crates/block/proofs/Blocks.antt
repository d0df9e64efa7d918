-- Blocks: what is read is what was encoded, and what was encoded is read again.
use Rattle.std.proofs.Common.{◌≡◌, ℕ, zero, suc, ◌≤◌, Bool, cond, eqb, ltb, List, [], ◌∷◌, ◌++◌, length, Ok, Err, refl, sym, ap, subst, ◌∙◌, append_assoc, arith}
use Rattle.std.specs.List.{flat_map, AllByRecursion}
use Rattle.std.proofs.lemmas.Bool.{eqb-true, ltb-false, le-ltb}
use Rattle.std.proofs.lemmas.List.{append-nil, nil_from_length}
use Rattle.std.proofs.lemmas.List.Concat.{flat_map-cons}
use Rattle.byteorder.specs.Endian.{big_bytes}
use Rattle.block.specs.first_version.Grammar.{Block}
use Rattle.block.specs.declared.block.Header.{Header}
use Rattle.transaction.specs.Limits.{max_tx_bytes}
use Rattle.block.specs.Limits.{max_txs}
use Rattle.block.specs.declared.fault.BlockFault.TheVariants.{TooManyTxs, TxTooLong, TrailingBytes}
use Rattle.block.specs.first_version.Grammar.{header_bytes, tx_bytes, txs_bytes, IsTx, Spells}
use Rattle.block.specs.Reading.{◌>>=◌, Read, number_at, bytes_at, header_at, count_at, tx_at, txs_at, block_at}
use Rattle.block.proofs.Steps.{bind_ok, refused_ok, taken_ok, ok_is}
use Rattle.block.proofs.Rests.{Txs, count_or_fault, tx_or_fault, in_front, after_tx, ended, after_count, after_header}
use Rattle.values.proofs.Numbers.{IsBytes, IsBytes-behind, wide4}
use Rattle.block.proofs.Fields.{bytes_taken, bytes_again, number_taken, number_again}
use Rattle.block.proofs.Headers.{header_taken, header_again}

pub count_taken : (bytes : List ℕ) (x : ℕ × List ℕ) → IsBytes bytes → count_at bytes ≡ Ok x → (bytes ≡ big_bytes 4 x.0 ++ x.1) × (x.0 ≤ max_txs)
unfolding count_at
count_taken bytes x fits e =
    let a = bind_ok (number_at 4 bytes) count_or_fault x e in
    let g = refused_ok (ltb max_txs a.0.0) TooManyTxs (Ok a.0) x a.2 in
    let read = number_taken 4 wide4 bytes a.0 fits a.1 in
    subst (λ (p : ℕ × List ℕ). (bytes ≡ big_bytes 4 p.0 ++ p.1) × (p.0 ≤ max_txs)) (ok_is a.0 x g.1) (read.0, ltb-false _ _ g.0)

pub count_again : (n : ℕ) (rest : List ℕ) → n ≤ max_txs → count_at (big_bytes 4 n ++ rest) ≡ Ok (n, rest)
unfolding count_at
count_again n rest le =
    ap (λ (r : Read ℕ). r >>= count_or_fault) (number_again 4 n rest (omega arith))
    ∙ ap (λ (b : Bool). cond b (Err TooManyTxs) (Ok (n, rest))) (le-ltb max_txs n le)

pub tx_taken : (bytes : List ℕ) (x : List ℕ × List ℕ) → IsBytes bytes → tx_at bytes ≡ Ok x → (bytes ≡ tx_bytes x.0 ++ x.1) × IsTx x.0
unfolding tx_at
tx_taken bytes x fits e =
    let a = bind_ok (number_at 4 bytes) tx_or_fault x e in
    let g = refused_ok (ltb max_tx_bytes a.0.0) TxTooLong (bytes_at a.0.0 a.0.1) x a.2 in
    let read = number_taken 4 wide4 bytes a.0 fits a.1 in
    let tx = bytes_taken a.0.0 a.0.1 x g.1 in
    let small : a.0.0 ≤ max_tx_bytes = ltb-false _ _ g.0 in
    joined (big_bytes 4 a.0.0) bytes a.0.1 x.0 x.1 a.0.0 tx.1 read.0 tx.0 small
  where
    joined : (front bytes behind tx rest : List ℕ) (n : ℕ) → length tx ≡ n → bytes ≡ big_bytes 4 n ++ behind → behind ≡ tx ++ rest → n ≤ max_tx_bytes → (bytes ≡ tx_bytes tx ++ rest) × IsTx tx
    joined front bytes behind tx rest n len e f small =
        (e ∙ ap (λ (t : List ℕ). big_bytes 4 n ++ t) f ∙ ap (λ (k : ℕ). big_bytes 4 k ++ (tx ++ rest)) (sym len) ∙ sym (append_assoc (big_bytes 4 (length tx)) tx rest), omega arith)

pub tx_again : (tx rest : List ℕ) → IsTx tx → tx_at (tx_bytes tx ++ rest) ≡ Ok (tx, rest)
unfolding tx_at
tx_again tx rest small =
    ap tx_at (append_assoc (big_bytes 4 (length tx)) tx rest)
    ∙ ap (λ (r : Read ℕ). r >>= tx_or_fault) (number_again 4 (length tx) (tx ++ rest) (omega arith))
    ∙ ap (λ (b : Bool). cond b (Err TxTooLong) (bytes_at (length tx) (tx ++ rest))) (le-ltb max_tx_bytes (length tx) small)
    ∙ bytes_again (length tx) tx rest refl

-- a transaction in front of others
pub tx_in_front : (tx : List ℕ) (txs : Txs) (rest : List ℕ) → flat_map tx_bytes (tx ∷ txs) ++ rest ≡ tx_bytes tx ++ (flat_map tx_bytes txs ++ rest)
tx_in_front tx txs rest = ap (λ (t : List ℕ). t ++ rest) (flat_map-cons tx_bytes tx txs) ∙ append_assoc (tx_bytes tx) (flat_map tx_bytes txs) rest

pub record AreTaken (n : ℕ) (bytes : List ℕ) (txs : Txs) (rest : List ℕ) : Type 0 where
  pub parts : bytes ≡ flat_map tx_bytes txs ++ rest
  pub len : length txs ≡ n
  pub each : AllByRecursion IsTx txs

pub txs_taken : (n : ℕ) (bytes : List ℕ) (x : Txs × List ℕ) → IsBytes bytes → txs_at n bytes ≡ Ok x → AreTaken n bytes x.0 x.1
unfolding txs_at
txs_taken zero bytes x fits e =
    let none : AreTaken 0 bytes [] bytes = record { parts = refl; len = refl; each = tt } in
    subst (λ (p : Txs × List ℕ). AreTaken 0 bytes p.0 p.1) (ok_is ([], bytes) x e) none
txs_taken (suc n) bytes x fits e =
    let a = bind_ok (tx_at bytes) (after_tx n) x e in
    let b = bind_ok (txs_at n a.0.1) (in_front a.0.0) x a.2 in
    let first = tx_taken bytes a.0 fits a.1 in
    let others = txs_taken n a.0.1 b.0 (IsBytes-behind (tx_bytes a.0.0) a.0.1 bytes fits first.0) b.1 in
    let parts : bytes ≡ flat_map tx_bytes (a.0.0 ∷ b.0.0) ++ b.0.1 = first.0 ∙ ap (λ (t : List ℕ). tx_bytes a.0.0 ++ t) others.parts ∙ sym (tx_in_front a.0.0 b.0.0 b.0.1) in
    let whole : AreTaken (suc n) bytes (a.0.0 ∷ b.0.0) b.0.1 = record { parts = parts; len = ap suc others.len; each = (first.1, others.each) } in
    subst (λ (p : Txs × List ℕ). AreTaken (suc n) bytes p.0 p.1) (ok_is (a.0.0 ∷ b.0.0, b.0.1) x b.2) whole

pub txs_again : (txs : Txs) (rest : List ℕ) → AllByRecursion IsTx txs → txs_at (length txs) (flat_map tx_bytes txs ++ rest) ≡ Ok (txs, rest)
unfolding txs_at
txs_again [] rest each = refl
txs_again (tx ∷ txs) rest each =
    ap (txs_at (suc (length txs))) (tx_in_front tx txs rest)
    ∙ ap (λ (r : Read (List ℕ)). r >>= after_tx (length txs)) (tx_again tx (flat_map tx_bytes txs ++ rest) each.0)
    ∙ ap (λ (r : Read Txs). r >>= in_front tx) (txs_again txs rest each.1)

-- the fields of a block, with what is left after each
spelled_by : (front count bytes a b txs rest : List ℕ) → bytes ≡ front ++ a → a ≡ count ++ b → b ≡ txs ++ rest → bytes ≡ (front ++ (count ++ txs)) ++ rest
spelled_by front count bytes a b txs rest e f g = e ∙ ap (λ (t : List ℕ). front ++ t) (f ∙ ap (λ (t : List ℕ). count ++ t) g) ∙ (simp append_assoc)

pub block_taken : (bytes : List ℕ) (x : Block) → IsBytes bytes → block_at bytes ≡ Ok x → Spells bytes x
unfolding block_at
block_taken bytes x fits e =
    let a = bind_ok (header_at bytes) after_header x e in
    let b = bind_ok (count_at a.0.1) (after_count a.0.0) x a.2 in
    let c = bind_ok (txs_at b.0.0 b.0.1) (ended a.0.0) x b.2 in
    let made : Block = record { header = a.0.0; txs = c.0.0 } in
    let g = taken_ok (eqb (length c.0.1) 0) TrailingBytes (Ok made) x c.2 in
    let header = header_taken bytes a.0 fits a.1 in
    let fits_a = IsBytes-behind (header_bytes a.0.0) a.0.1 bytes fits header.0 in
    let count = count_taken a.0.1 b.0 fits_a b.1 in
    let txs = txs_taken b.0.0 b.0.1 c.0 (IsBytes-behind (big_bytes 4 b.0.0) b.0.1 a.0.1 fits_a count.0) c.1 in
    let nothing : c.0.1 ≡ [] = nil_from_length c.0.1 (eqb-true _ _ g.0) in
    let parts = spelled_by (header_bytes a.0.0) (big_bytes 4 b.0.0) bytes a.0.1 b.0.1 (flat_map tx_bytes c.0.0) c.0.1 header.0 count.0 txs.parts in
    let fields : bytes ≡ header_bytes a.0.0 ++ txs_bytes (length c.0.0) c.0.0 =
    parts ∙ ap (λ (t : List ℕ). (header_bytes a.0.0 ++ (big_bytes 4 b.0.0 ++ flat_map tx_bytes c.0.0)) ++ t) nothing ∙ append-nil (header_bytes a.0.0 ++ (big_bytes 4 b.0.0 ++ flat_map tx_bytes c.0.0))
    ∙ ap (λ (n : ℕ). header_bytes a.0.0 ++ (big_bytes 4 n ++ flat_map tx_bytes c.0.0)) (sym txs.len) in
    let few : length c.0.0 ≤ max_txs = omega (arith, txs.len, count.1) in
    let spells : Spells bytes made = record { header = header.1; count = few; each = txs.each; fields = fields } in
    subst (λ (b : Block). Spells bytes b) (ok_is made x g.1) spells

-- what reading returns for a front that encodes a block
pub front_again : (b : Block) (front rest : List ℕ) → Spells front b
    → block_at (front ++ rest) ≡ cond (eqb (length rest) 0) (Ok b) (Err TrailingBytes)
unfolding block_at
front_again b front rest spells =
    let txs = flat_map tx_bytes b.txs in
    let regrouped : front ++ rest ≡ header_bytes b.header ++ (big_bytes 4 (length b.txs) ++ (txs ++ rest)) =
    ap (λ (t : List ℕ). t ++ rest) spells.fields ∙ (regroup (header_bytes b.header) (big_bytes 4 (length b.txs)) txs rest) in
    ap block_at regrouped
    ∙ ap (λ (r : Read Header). r >>= after_header) (header_again b.header (big_bytes 4 (length b.txs) ++ (txs ++ rest)) spells.header)
    ∙ ap (λ (r : Read ℕ). r >>= after_count b.header) (count_again (length b.txs) (txs ++ rest) spells.count)
    ∙ ap (λ (r : Read Txs). r >>= ended b.header) (txs_again b.txs rest spells.each)
  where
    regroup : (a b c d : List ℕ) → (a ++ (b ++ c)) ++ d ≡ a ++ (b ++ (c ++ d))
    regroup a b c d = simp append_assoc

pub block_again : (b : Block) (bytes : List ℕ) → Spells bytes b → block_at bytes ≡ Ok b
block_again b bytes spells = ap block_at (sym (append-nil bytes)) ∙ front_again b bytes [] spells
