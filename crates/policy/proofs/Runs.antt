-- The bytes at the front that pass a test: runs of letters and digits, and spaces.
use Rattle.std.proofs.Common.{◌≡◌, ℕ, suc, ◌+◌, ◌<◌, Bool, true, false, cond, List, [], ◌∷◌, ◌++◌, length, take, drop, refl, ap, arith}
use Rattle.std.proofs.Math.Numerals.{one-add}
use Rattle.std.specs.Prelude.{nat_lt, ◌==◌}
use Rattle.std.specs.List.{AllByRecursion, AllPass, prefix_len, list_all}
use Rattle.std.proofs.lemmas.Bool.Decides.{nat_tests}
use Rattle.std.proofs.lemmas.List.Elements.{recursion_from_All, All-from_recursion}
use Rattle.policy.specs.Token.{DoesntBegin}
use Rattle.policy.specs.Lexing.{after_spaces}
use Rattle.policy.proofs.Ascii.{both_true}

abbrev pub Each : (ℕ → Bool) → List ℕ → Type 0
Each p xs = AllByRecursion (λ x. p x ≡ true) xs

pub each_of_pass : (p : ℕ → Bool) (xs : List ℕ) → AllPass p xs → Each p xs
each_of_pass p xs h = recursion_from_All (λ x. p x ≡ true) xs h

pub pass_of_each : (p : ℕ → Bool) (xs : List ℕ) → Each p xs → AllPass p xs
pass_of_each p xs h = All-from_recursion (λ x. p x ≡ true) xs h

pub each_of_test : (p : ℕ → Bool) (xs : List ℕ) → list_all p xs ≡ true → Each p xs
each_of_test p [] e = tt
each_of_test p (x ∷ xs) e = let q = both_true (p x) (list_all p xs) e in (q.0, each_of_test p xs q.1)

pub lt_test : (a b : ℕ) → a < b → nat_lt a b ≡ true
lt_test a b h = grind (arith, nat_tests)

pub each_weaker : (p r : ℕ → Bool) (xs : List ℕ) → ((b : ℕ) → p b ≡ true → r b ≡ true) → Each p xs → Each r xs
each_weaker p r [] f h = tt
each_weaker p r (x ∷ xs) f h = (f x h.0, each_weaker p r xs f h.1)

pub each_append : (p : ℕ → Bool) (xs ys : List ℕ) → Each p xs → Each p ys → Each p (xs ++ ys)
each_append p [] ys h k = k
each_append p (x ∷ xs) ys h k = (h.0, each_append p xs ys h.1 k)

-- ---- runs

pub run_len : (p : ℕ → Bool) (w rest : List ℕ) → Each p w → DoesntBegin p rest → prefix_len p (w ++ rest) ≡ length w
run_len p [] [] h d = refl
run_len p [] (b ∷ rest) h d = rw d refl
run_len p (x ∷ w) rest h d = let e = run_len p w rest h.1 d in rw h.0 (rw one-add (ap suc e))

pub run_passes : (p : ℕ → Bool) (x : ℕ) (xs : List ℕ) (b : Bool) → p x ≡ b → Each p (take (prefix_len p xs) xs)
    → Each p (take (cond b (1 + prefix_len p xs) 0) (x ∷ xs))
run_passes p x xs true e h = rw one-add (e, h)
run_passes p x xs false e h = tt

pub run_each : (p : ℕ → Bool) (xs : List ℕ) → Each p (take (prefix_len p xs) xs)
run_each p [] = tt
run_each p (x ∷ xs) = run_passes p x xs (p x) refl (run_each p xs)

pub run_stops : (p : ℕ → Bool) (x : ℕ) (xs : List ℕ) (b : Bool) → p x ≡ b → DoesntBegin p (drop (prefix_len p xs) xs)
    → DoesntBegin p (drop (cond b (1 + prefix_len p xs) 0) (x ∷ xs))
run_stops p x xs true e h = rw one-add h
run_stops p x xs false e h = e

pub run_ends : (p : ℕ → Bool) (xs : List ℕ) → DoesntBegin p (drop (prefix_len p xs) xs)
run_ends p [] = tt
run_ends p (x ∷ xs) = run_stops p x xs (p x) refl (run_ends p xs)

-- ---- spaces

pub skip : (spaces after : List ℕ) → Each (λ b. b == 32) spaces → DoesntBegin (λ b. b == 32) after
    → after_spaces (spaces ++ after) ≡ after
skip [] [] h d = refl
skip [] (b ∷ after) h d = rw d refl
skip (s ∷ spaces) after h d = rw h.0 (skip spaces after h.1 d)

pub record Blank (bytes after : List ℕ) : Type 0 where
  pub spaces : List ℕ
  pub blank : Each (λ b. b == 32) spaces
  pub parts : bytes ≡ spaces ++ after
  pub stops : DoesntBegin (λ b. b == 32) after

pub blank_case : (b : ℕ) (bytes : List ℕ) (t : Bool) → (b == 32) ≡ t → Blank bytes (after_spaces bytes)
    → Blank (b ∷ bytes) (cond t (after_spaces bytes) (b ∷ bytes))
blank_case b bytes true e r =
    record { spaces = b ∷ r.spaces; blank = (e, r.blank); parts = ap (λ (x : List ℕ). b ∷ x) r.parts; stops = r.stops }
blank_case b bytes false e r = record { spaces = []; blank = tt; parts = refl; stops = e }

pub blank_of : (bytes : List ℕ) → Blank bytes (after_spaces bytes)
blank_of [] = record { spaces = []; blank = tt; parts = refl; stops = tt }
blank_of (b ∷ bytes) = blank_case b bytes (b == 32) refl (blank_of bytes)

-- the run at the front of a list passes
pub prefix_passes : (p : ℕ → Bool) (xs : List ℕ) → AllPass p (take (prefix_len p xs) xs)
prefix_passes p xs = pass_of_each p (take (prefix_len p xs) xs) (run_each p xs)
