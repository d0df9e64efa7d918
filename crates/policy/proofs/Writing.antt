-- Writing the members of a gate one after the other.
use Rattle.std.proofs.Common.{◌≡◌, ℕ, zero, suc, ◌+◌, ◌<◌, ◌≤◌, true, List, [], ◌∷◌, ◌++◌, length, drop, get_or, refl, sym, ap, ◌∙◌, append_assoc, arith}
use Rattle.std.proofs.Math.Numerals.{add-one}
use Rattle.std.specs.Prelude.{nat_lt}
use Rattle.std.proofs.lemmas.Bool.Decides.{nat_tests}
use Rattle.std.proofs.lemmas.List.{append-nil}
use Rattle.policy.specs.Tree.{Tree, gate}
use Rattle.policy.specs.View.{trees}
use Rattle.policy.specs.Text.{text_of, texts_of, separator, head_text}
use Rattle.policy.specs.Grammar.{count}
use Rattle.policy.specs.Written.{separator_text}

separator_is : (xs : List Tree) → separator (trees xs) ≡ separator_text (nat_lt 1 (suc (length xs)))
separator_is [] = refl
separator_is (x ∷ xs) = let e : nat_lt 1 (suc (length (x ∷ xs))) ≡ true = grind (arith, nat_tests) in rw e refl

shift : (i n : ℕ) → nat_lt (suc (suc i)) (suc n) ≡ nat_lt (suc i) n
shift i n = grind (arith, nat_tests)

one_step : (xs : List Tree) (i : ℕ) (t : Tree) → i < length xs → t ≡ get_or xs i t
    → texts_of (trees (drop i xs)) ≡ text_of t ++ separator_text (nat_lt (suc i) (length xs)) ++ texts_of (trees (drop (suc i) xs))
one_step [] i t lt e = absurd (omega arith)
one_step (x ∷ xs) zero t lt e = rw (e, separator_is xs) refl
one_step (x ∷ xs) (suc i) t lt e = rw shift (one_step xs i t (omega arith) e)

-- one member more is written
pub write_on : (xs : List Tree) (i : ℕ) (t : Tree) (out all : List ℕ) → i < length xs → t ≡ get_or xs i t
    → out ++ texts_of (trees (drop i xs)) ≡ all
    → ((out ++ text_of t) ++ separator_text (nat_lt (i + 1) (length xs))) ++ texts_of (trees (drop (i + 1) xs)) ≡ all
write_on xs i t out all lt e so_far =
    let s = one_step xs i t lt e in
    let n : i + 1 ≡ suc i = add-one i in
    rw n (append_assoc (out ++ text_of t) (separator_text (nat_lt (suc i) (length xs))) (texts_of (trees (drop (suc i) xs))) ∙ append_assoc out (text_of t) _ ∙ ap (λ (x : List ℕ). out ++ x) (sym (append_assoc (text_of t) (separator_text (nat_lt (suc i) (length xs))) (texts_of (trees (drop (suc i) xs)))) ∙ sym s) ∙ so_far)

nothing_opening : (xs : List Tree) (i : ℕ) → length xs ≤ i → texts_of (trees (drop i xs)) ≡ []
nothing_opening [] zero le = refl
nothing_opening [] (suc i) le = refl
nothing_opening (x ∷ xs) zero le = absurd (omega arith)
nothing_opening (x ∷ xs) (suc i) le = nothing_opening xs i (omega arith)

count_trees : (xs : List Tree) → count (trees xs) ≡ length xs
count_trees [] = refl
count_trees (x ∷ xs) = ap suc (count_trees xs)

-- all members are written
pub write_end : (xs : List Tree) (i n : ℕ) (old start out : List ℕ) → length xs ≤ i
    → start ≡ old ++ head_text n (length xs) → out ++ texts_of (trees (drop i xs)) ≡ start ++ texts_of (trees xs)
    → out ≡ old ++ text_of (gate n (trees xs))
write_end xs i n old start out le begun so_far =
    sym (append-nil out) ∙ ap (λ (x : List ℕ). out ++ x) (sym (nothing_opening xs i le)) ∙ so_far ∙ ap (λ (x : List ℕ). x ++ texts_of (trees xs)) begun ∙ append_assoc old (head_text n (length xs)) (texts_of (trees xs)) ∙ ap (λ (m : ℕ). old ++ (head_text n m ++ texts_of (trees xs))) (sym (count_trees xs))
