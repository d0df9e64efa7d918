-- The header: what is read is what was encoded, and what was encoded is read again.
use Rattle.std.proofs.Common.{◌≡◌, ℕ, Bool, true, false, cond, eqb, List, [], ◌∷◌, ◌++◌, take, drop, Ok, Err, refl, sym, ap, subst, ◌∙◌, append_assoc}
use Rattle.std.specs.Prelude.{nat_eq}
use Rattle.std.specs.List.{starts_with}
use Rattle.std.specs.Cmp.Lexicographic.{same_text}
use Rattle.std.proofs.lemmas.Bool.{eqb-true}
use Rattle.std.proofs.lemmas.List.{take-append-drop}
use Rattle.byteorder.specs.Endian.{big_bytes}
use Rattle.block.specs.declared.block.Header.{Header}
use Rattle.block.specs.declared.block.Previous.{Previous}
use Rattle.block.specs.declared.block.Previous.TheVariants.{Empty, Hash}
use Rattle.values.specs.Hash.{hash_bytes}
use Rattle.block.specs.declared.fault.BlockFault.TheVariants.{BadMagic, Truncated, PreviousLength}
use Rattle.block.specs.first_version.Grammar.{magic, previous_bytes, header_bytes, IsPrevious, IsHeader}
use Rattle.block.specs.Reading.{◌>>=◌, Read, bytes_at, number_at, magic_at, previous_at, header_at}
use Rattle.block.proofs.Steps.{bind_ok, taken_ok, ok_is, ok_not_err}
use Rattle.block.proofs.Rests.{as_hash, hash_or_fault, as_header, after_previous, after_number, after_magic}
use Rattle.values.proofs.Numbers.{IsBytes, IsBytes-behind, wide8}
use Rattle.block.proofs.Fields.{bytes_taken, bytes_again, number_taken, number_again}

pub magic_taken : (bytes rest : List ℕ) → magic_at bytes ≡ Ok rest → bytes ≡ magic ++ rest
magic_taken bytes rest e =
    let g = taken_ok (starts_with nat_eq bytes magic) BadMagic (Ok (drop 4 bytes)) rest e in
    let front : magic ≡ take 4 bytes = same_text magic (take 4 bytes) (sym g.0) in
    let behind : drop 4 bytes ≡ rest = ok_is (drop 4 bytes) rest g.1 in
    sym (take-append-drop 4 bytes) ∙ ap (λ (t : List ℕ). t ++ drop 4 bytes) (sym front) ∙ ap (λ (t : List ℕ). magic ++ t) behind

pub magic_again : (rest : List ℕ) → magic_at (magic ++ rest) ≡ Ok rest
magic_again rest = refl

previous_taken_len : (len : ℕ) (bytes : List ℕ) (x : Previous × List ℕ) → previous_at (len ∷ bytes) ≡ Ok x → (len ∷ bytes ≡ previous_bytes x.0 ++ x.1) × IsPrevious x.0
unfolding previous_at
previous_taken_len len bytes x e = empty (eqb len 0) refl e
  where
    hash : (b : Bool) → eqb len hash_bytes ≡ b → cond b (bytes_at hash_bytes bytes >>= as_hash) (Err PreviousLength) ≡ Ok x → (len ∷ bytes ≡ previous_bytes x.0 ++ x.1) × IsPrevious x.0
    hash false t h = absurd (ok_not_err x PreviousLength (sym h))
    hash true t h =
        let b = bind_ok (bytes_at hash_bytes bytes) as_hash x h in
        let k = bytes_taken hash_bytes bytes b.0 b.1 in
        let same : len ≡ hash_bytes = eqb-true _ _ t in
        let whole : len ∷ bytes ≡ previous_bytes (Hash b.0.0) ++ b.0.1 = ap (λ (n : ℕ). n ∷ bytes) same ∙ ap (λ (t : List ℕ). hash_bytes ∷ t) k.0 in
        subst (λ (p : Previous × List ℕ). (len ∷ bytes ≡ previous_bytes p.0 ++ p.1) × IsPrevious p.0) (ok_is (Hash b.0.0, b.0.1) x b.2) (whole, k.1)

    empty : (b : Bool) → eqb len 0 ≡ b → cond b (Ok (Empty, bytes)) (hash_or_fault len bytes) ≡ Ok x → (len ∷ bytes ≡ previous_bytes x.0 ++ x.1) × IsPrevious x.0
    empty true t h = subst (λ (p : Previous × List ℕ). (len ∷ bytes ≡ previous_bytes p.0 ++ p.1) × IsPrevious p.0) (ok_is (Empty, bytes) x h) (ap (λ (n : ℕ). n ∷ bytes) (eqb-true _ _ t), tt)
    empty false t h = hash (eqb len hash_bytes) refl h

pub previous_taken : (bytes : List ℕ) (x : Previous × List ℕ) → previous_at bytes ≡ Ok x → (bytes ≡ previous_bytes x.0 ++ x.1) × IsPrevious x.0
unfolding previous_at
previous_taken [] x e = absurd (ok_not_err x Truncated (sym e))
previous_taken (len ∷ bytes) x e = previous_taken_len len bytes x e

pub previous_again : (p : Previous) (rest : List ℕ) → IsPrevious p → previous_at (previous_bytes p ++ rest) ≡ Ok (p, rest)
unfolding previous_at
previous_again Empty rest h = refl
previous_again (Hash hash) rest h = rw (bytes_again hash_bytes hash rest h) refl

-- four fields joined, from the left and from the right
regroup : (a b c d rest : List ℕ) → (a ++ b ++ c ++ d) ++ rest ≡ a ++ (b ++ (c ++ (d ++ rest)))
regroup a b c d rest = simp append_assoc

-- four fields, each taken off what the one before it left
four : (m n p d bytes a b c rest : List ℕ) → bytes ≡ m ++ a → a ≡ n ++ b → b ≡ p ++ c → c ≡ d ++ rest → bytes ≡ (m ++ n ++ p ++ d) ++ rest
four m n p d bytes a b c rest e f g h = e ∙ ap (λ (t : List ℕ). m ++ t) (f ∙ ap (λ (t : List ℕ). n ++ t) (g ∙ ap (λ (t : List ℕ). p ++ t) h)) ∙ sym (regroup m n p d rest)

pub header_regrouped : (h : Header) (rest : List ℕ) → header_bytes h ++ rest ≡ magic ++ (big_bytes 8 h.number ++ (previous_bytes h.previous ++ (h.data_hash ++ rest)))
header_regrouped h rest = regroup magic (big_bytes 8 h.number) (previous_bytes h.previous) h.data_hash rest

pub header_taken : (bytes : List ℕ) (x : Header × List ℕ) → IsBytes bytes → header_at bytes ≡ Ok x → (bytes ≡ header_bytes x.0 ++ x.1) × IsHeader x.0
unfolding header_at
header_taken bytes x fits e =
    let a = bind_ok (magic_at bytes) after_magic x e in
    let b = bind_ok (number_at 8 a.0) after_number x a.2 in
    let c = bind_ok (previous_at b.0.1) (after_previous b.0.0) x b.2 in
    let d = bind_ok (bytes_at hash_bytes c.0.1) (as_header b.0.0 c.0.0) x c.2 in
    let at_magic = magic_taken bytes a.0 a.1 in
    let at_number = number_taken 8 wide8 a.0 b.0 (IsBytes-behind magic a.0 bytes fits at_magic) b.1 in
    let at_previous = previous_taken b.0.1 c.0 c.1 in
    let at_data = bytes_taken hash_bytes c.0.1 d.0 d.1 in
    let h : Header = record { number = b.0.0; previous = c.0.0; data_hash = d.0.0 } in
    let whole : bytes ≡ header_bytes h ++ d.0.1 = four magic (big_bytes 8 b.0.0) (previous_bytes c.0.0) d.0.0 bytes a.0 b.0.1 c.0.1 d.0.1 at_magic at_number.0 at_previous.0 at_data.0 in
    let fine : IsHeader h = record { number = at_number.1; previous = at_previous.1; data_hash = at_data.1 } in
    subst (λ (p : Header × List ℕ). (bytes ≡ header_bytes p.0 ++ p.1) × IsHeader p.0) (ok_is (h, d.0.1) x d.2) (whole, fine)

pub header_again : (h : Header) (rest : List ℕ) → IsHeader h → header_at (header_bytes h ++ rest) ≡ Ok (h, rest)
unfolding header_at
header_again h rest fine =
    ap header_at (header_regrouped h rest)
    ∙ ap (λ (r : Read ℕ). r >>= after_number) (number_again 8 h.number (previous_bytes h.previous ++ (h.data_hash ++ rest)) fine.number)
    ∙ ap (λ (r : Read Previous). r >>= after_previous h.number) (previous_again h.previous (h.data_hash ++ rest) fine.previous)
    ∙ ap (λ (r : Read (List ℕ)). r >>= as_header h.number h.previous) (bytes_again hash_bytes h.data_hash rest fine.data_hash)
