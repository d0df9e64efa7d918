-- A test of each of a list, under the assignments that agree with what is known.
use Rattle.std.proofs.Common.{◌≡◌, ℕ, zero, suc, ◌<◌, Bool, true, ◌&&◌, ◌||◌, List, [], ◌∷◌, length, get_or, drop, drop-cons, sym, ap, ◌∙◌, arith}
use Rattle.std.specs.List.{list_all, list_any}
use Rattle.rules.specs.Assignment.{Assignment}
use Rattle.rules.specs.Sure.{Agrees}
use Rattle.rules.proofs.Booleans.{or-true, both_true}
use Rattle.key_chains.specs.Known.{Known, Grows, valid_in}
use Rattle.mvcc.proofs.Agreeing.{agrees_before}

-- what is left to be tested decides
abbrev pub AreLeft : {X : Type 0} → (Assignment → X → Bool) → Known → ℕ → List X → List X → Type 0
AreLeft test known i all left = (called : Assignment) → Agrees (valid_in known) i called → list_all (test called) all ≡ list_all (test called) left

-- the first of what is left is tested
pub first_tested : {X : Type 0} (test : Assignment → X → Bool) (old new : Known) (i : ℕ) (all left rest : List X) (x : X) (b : Bool) → Grows old new → left ≡ x ∷ rest
    → AreLeft test old i all left → ((called : Assignment) → Agrees (valid_in new) i called → test called x ≡ b)
    → (called : Assignment) → Agrees (valid_in new) i called → list_all (test called) all ≡ (b && list_all (test called) rest)
first_tested {X} test old new i all left rest x b grows first so_far here called agrees =
    so_far called (agrees_before old new i called grows agrees)
    ∙ ap (λ (xs : List X). list_all (test called) xs) first
    ∙ ap (λ (c : Bool). c && list_all (test called) rest) (here called agrees)

-- the first of what is left of a list from a place on
pub first_at : {X : Type 0} (xs : List X) (n : ℕ) (x : X) → n < length xs → x ≡ get_or xs n x → drop n xs ≡ x ∷ drop (suc n) xs
first_at {X} xs n x within is = drop-cons xs n x within ∙ ap (λ (y : X). y ∷ drop (suc n) xs) (sym is)

-- one that passes
pub any_at : {X : Type 0} (test : X → Bool) (xs : List X) (n : ℕ) (x : X) → n < length xs → x ≡ get_or xs n x → test x ≡ true → list_any test xs ≡ true
any_at test [] n x within is passes = absurd (omega arith)
any_at {X} test (y ∷ xs) zero x within is passes = ap (λ (z : X). test z || list_any test xs) (sym is) ∙ ap (λ (b : Bool). b || list_any test xs) passes
any_at test (y ∷ xs) (suc n) x within is passes = ap (λ (b : Bool). test y || b) (any_at test xs n x (omega arith) is passes) ∙ or-true (test y)

-- what holds of all from a place on holds of those behind it
pub holds_behind : {X : Type 0} (test : X → Bool) (xs : List X) (n : ℕ) (x : X) → n < length xs → list_all test (drop n xs) ≡ true → list_all test (drop (suc n) xs) ≡ true
holds_behind {X} test xs n x within all = (both_true (test (get_or xs n x)) (list_all test (drop (suc n) xs)) (ap (λ (ys : List X). list_all test ys) (sym (drop-cons xs n x within)) ∙ all)).1
