-- Bounds of a scan that are longer than a key.
use Rattle.std.proofs.Common.{◌≡◌, ℕ, zero, suc, ◌⊎◌, inl, inr, ◌∙◌, Bool, true, false, cond, List, [], ◌∷◌, ◌&&◌, refl, sym, ap, subst}
use Rattle.std.specs.Prelude.{take}
use Rattle.std.specs.List.{filter}
use Rattle.std.specs.Str.{bytes_eq}
use Rattle.std.specs.declared.cmp.Ordering.{Ordering}
use Rattle.std.specs.declared.cmp.Ordering.TheVariants.{Less, Equal, Greater}
use Rattle.std.specs.Ordering.{nat_cmp, is_le, ordering_then}
use Rattle.values.specs.Order.{bytes_cmp}
use Rattle.rules.specs.declared.row.Row.{Row}
use Rattle.rules.specs.Ranges.{is_below, is_within}
use Rattle.rules.specs.State.{StateKey}
use Rattle.rules.proofs.Booleans.{both_true}

-- what isn't below a start isn't below a front of it
front : (n : ℕ) (start key : List ℕ) → is_le (bytes_cmp start key) ≡ true → is_le (bytes_cmp (take n start) key) ≡ true
front zero start [] h = refl
front zero start (y ∷ ys) h = refl
front (suc n) [] key h = h
front (suc n) (x ∷ xs) [] h = absurd cc
front (suc n) (x ∷ xs) (y ∷ ys) h = by (nat_cmp x y) h (front n xs ys)
  where
    by : (o : Ordering) → is_le (ordering_then o (bytes_cmp xs ys)) ≡ true → (is_le (bytes_cmp xs ys) ≡ true → is_le (bytes_cmp (take n xs) ys) ≡ true) → is_le (ordering_then o (bytes_cmp (take n xs) ys)) ≡ true
    by Less h rest = refl
    by Equal h rest = rest h
    by Greater h rest = h

below : (end last key : List ℕ) → (last ≡ end) ⊎ (last ≡ []) → is_below key end ≡ true → is_below key last ≡ true
below end last key (inl same) h = subst (λ (l : List ℕ). is_below key l ≡ true) (sym same) h
below end last key (inr none) h = subst (λ (l : List ℕ). is_below key l ≡ true) (sym none) refl

both : (a b : Bool) → a ≡ true → b ≡ true → (a && b) ≡ true
both true b e f = f
both false b e f = absurd cc

above : (n : ℕ) (start first key : List ℕ) → (first ≡ start) ⊎ (first ≡ take n start) → is_le (bytes_cmp start key) ≡ true → is_le (bytes_cmp first key) ≡ true
above n start first key (inl same) h = subst (λ (l : List ℕ). is_le (bytes_cmp l key) ≡ true) (sym same) h
above n start first key (inr taken) h = subst (λ (l : List ℕ). is_le (bytes_cmp l key) ≡ true) (sym taken) (front n start key h)

within : (n : ℕ) (start end first last key : List ℕ) → (first ≡ start) ⊎ (first ≡ take n start) → (last ≡ end) ⊎ (last ≡ []) → is_within start end key ≡ true → is_within first last key ≡ true
within n start end first last key is_first is_last h =
    let parts = both_true (is_le (bytes_cmp start key)) (is_below key end) h in
    both (is_le (bytes_cmp first key)) (is_below key last) (above n start first key is_first parts.0) (below end last key is_last parts.1)

false_is_true : false ≡ true → ⊥
false_is_true e = cc

-- rows between wider bounds, of which those between the bounds are taken
pub narrowed : (n : ℕ) (namespace start end first last : List ℕ) → (first ≡ start) ⊎ (first ≡ take n start) → (last ≡ end) ⊎ (last ≡ []) → (rows : List (StateKey × Row))
    → filter (λ e. is_within start end e.0.1) (filter (λ e. bytes_eq namespace e.0.0 && is_within first last e.0.1) rows) ≡ filter (λ e. bytes_eq namespace e.0.0 && is_within start end e.0.1) rows
narrowed n namespace start end first last is_first is_last [] = refl
narrowed n namespace start end first last is_first is_last (e ∷ rows) =
    by (bytes_eq namespace e.0.0) (is_within first last e.0.1) (is_within start end e.0.1) refl (within n start end first last e.0.1 is_first is_last) (narrowed n namespace start end first last is_first is_last rows)
  where
    wider : List (StateKey × Row)
    wider = filter (λ e. bytes_eq namespace e.0.0 && is_within first last e.0.1) rows

    some : List (StateKey × Row)
    some = filter (λ e. bytes_eq namespace e.0.0 && is_within start end e.0.1) rows

    by : (a p q : Bool) → is_within start end e.0.1 ≡ q → (q ≡ true → p ≡ true) → filter (λ e. is_within start end e.0.1) wider ≡ some
        → filter (λ e. is_within start end e.0.1) (cond (a && p) (e ∷ wider) wider) ≡ cond (a && q) (e ∷ some) some
    by true true true is h rest = ap (λ b. cond b (e ∷ filter (λ e. is_within start end e.0.1) wider) (filter (λ e. is_within start end e.0.1) wider)) is ∙ ap (λ l. e ∷ l) rest
    by true true false is h rest = ap (λ b. cond b (e ∷ filter (λ e. is_within start end e.0.1) wider) (filter (λ e. is_within start end e.0.1) wider)) is ∙ rest
    by true false true is h rest = absurd (false_is_true (h refl))
    by true false false is h rest = rest
    by false p q is h rest = rest
