-- One step of reading a word.
use Rattle.std.proofs.Common.{◌≡◌, ℕ, Bool, true, false, List, [], ◌∷◌, ◌++◌, Option, Some, None, option_map, option_and_then, cond, eqb, sym, ap, refl, ◌∙◌, append_assoc}
use Rattle.text_lines.specs.Words.{stands_for_itself, hex_byte, spelled}
use Rattle.text_lines.specs.Spelling.{first_spelled, first_escaped}

-- the rest of a word behind its first byte
abbrev with_first : ℕ × List ℕ → Option (List ℕ)
with_first x = option_map (λ bytes. x.0 ∷ bytes) (spelled x.1)

escaped : (byte : Option ℕ) (more : List ℕ) → option_and_then (λ b. option_map (λ bytes. b ∷ bytes) (spelled more)) byte ≡ option_and_then with_first (option_map (λ b. (b, more)) byte)
escaped None more = refl
escaped (Some b) more = refl

-- how the two tests of a byte choose
two_tests : {A B : Type 0} (f : A → Option B) (stands percent : Bool) (x : A) (escape : Option A) (y z : Option B) → y ≡ f x → z ≡ option_and_then f escape
    → cond stands y (cond percent z None) ≡ option_and_then f (cond stands (Some x) (cond percent escape None))
two_tests f true percent x escape y z e k = e
two_tests f false true x escape y z e k = k
two_tests f false false x escape y z e k = refl

-- the same where no escape fits
one_test : {A B : Type 0} (f : A → Option B) (stands percent : Bool) (x : A) (y : Option B) → y ≡ f x
    → cond stands y None ≡ option_and_then f (cond stands (Some x) (cond percent None None))
one_test f true percent x y e = e
one_test f false true x y e = refl
one_test f false false x y e = refl

pub spelled-first : (b : ℕ) (more : List ℕ) → spelled (b ∷ more) ≡ option_and_then with_first (first_spelled (b ∷ more))
spelled-first b [] = one_test with_first (stands_for_itself b) (eqb b 37) (b, []) _ refl
spelled-first b (c ∷ []) = one_test with_first (stands_for_itself b) (eqb b 37) (b, c ∷ []) _ refl
spelled-first b (c ∷ d ∷ more) = two_tests with_first (stands_for_itself b) (eqb b 37) (b, c ∷ d ∷ more) (first_escaped (c ∷ d ∷ more)) _ _ refl (escaped (hex_byte c d) more)

regroup : (front : List ℕ) (byte : ℕ) (more : Option (List ℕ)) → option_map (λ m. front ++ m) (option_map (λ bytes. byte ∷ bytes) more) ≡ option_map (λ m. (front ++ byte ∷ []) ++ m) more
regroup front byte None = refl
regroup front byte (Some m) = ap Some (simp append_assoc)

pub spelled-next : (front rest : List ℕ) (byte : ℕ) (after : List ℕ) → Some (byte, after) ≡ first_spelled rest
    → option_map (λ m. front ++ m) (spelled rest) ≡ option_map (λ m. (front ++ byte ∷ []) ++ m) (spelled after)
spelled-next front [] byte after e = cc
spelled-next front (b ∷ more) byte after e =
    ap (option_map (λ m. front ++ m)) (spelled-first b more ∙ ap (option_and_then with_first) (sym e)) ∙ regroup front byte (spelled after)
