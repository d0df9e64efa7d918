-- A word or a number that is spelled at the front is the token that is computed.
use Rattle.std.proofs.Common.{◌≡◌, ℕ, ◌-◌, ◌+◌, ◌*◌, ◌≤◌, true, false, List, [], ◌∷◌, ◌++◌, length, refl, sym, ap, ◌∙◌, subst, inl, inr, arith}
use Rattle.std.specs.Prelude.{◌==◌}
use Rattle.std.specs.Char.{is_ascii_digit, is_ascii_alphabetic, digit_value}
use Rattle.std.specs.List.{list_all}
use Rattle.std.specs.Str.Parse.{digits_value}
use Rattle.std.proofs.lemmas.Bool.Decides.{nat_tests}
use Rattle.std.proofs.lemmas.List.{take_at, drop_at}
use Rattle.std.proofs.lemmas.Str.{digit_value_digit}
use Rattle.std.specs.Int.{IsInRange}
use Rattle.policy.specs.declared.token.Word.TheVariants.{All, Any, OutOf}
use Rattle.policy.specs.Token.{Token, word, number, IsToken, DoesntBegin}
use Rattle.policy.specs.Lexing.{number_in, number_at, word_in, word_at, front_at}
use Rattle.policy.proofs.Runs.{Each, each_of_pass, each_of_test, run_len}

-- ---- words

pub letter_front : (a : ℕ) (bytes : List ℕ) → is_ascii_alphabetic a ≡ true
    → front_at (a ∷ bytes) ≡ word_at (a ∷ bytes)
unfolding front_at
letter_front a bytes h =
    let e1 : (a == 40) ≡ false = grind (arith, nat_tests) in
    let e2 : (a == 41) ≡ false = grind (arith, nat_tests) in
    let e3 : (a == 44) ≡ false = grind (arith, nat_tests) in
    let e4 : (a == 39) ≡ false = grind (arith, nat_tests) in
    let e5 : (a == 34) ≡ false = grind (arith, nat_tests) in
    let e6 : is_ascii_digit a ≡ false = grind (arith, nat_tests) in
    rw (e1, e2, e3, e4, e5, e6) refl

pub word_run : (w rest : List ℕ) → Each is_ascii_alphabetic w → DoesntBegin is_ascii_alphabetic rest
    → word_at (w ++ rest) ≡ (word_in w, rest)
unfolding word_at
word_run w rest h d =
    rw (run_len is_ascii_alphabetic w rest h d, take_at w rest (length w) refl, drop_at w rest (length w) refl) refl

-- a text that is spelled by these bytes at its front
abbrev pub FrontOf : Token → List ℕ → List ℕ → Type 0
FrontOf t bytes rest = (front_at bytes ≡ (t, rest)) × DoesntBegin (λ b. b == 32) bytes

pub word_front : (t : Token) (a : ℕ) (w bytes rest : List ℕ) → list_all is_ascii_alphabetic (a ∷ w) ≡ true
    → word_in (a ∷ w) ≡ t → DoesntBegin is_ascii_alphabetic rest → bytes ≡ (a ∷ w) ++ rest → FrontOf t bytes rest
word_front t a w bytes rest letters is d e =
    let h = each_of_test is_ascii_alphabetic (a ∷ w) letters in
    let h0 : is_ascii_alphabetic a ≡ true = h.0 in
    let s : (a == 32) ≡ false = grind (arith, nat_tests) in
    let f : front_at ((a ∷ w) ++ rest) ≡ (t, rest) = letter_front a (w ++ rest) h0 ∙ word_run (a ∷ w) rest h d ∙ ap (λ (x : Token). (x, rest)) is in
    subst (λ (x : List ℕ). FrontOf t x rest) (sym e) (f, s)

pub word_all : (bytes rest w : List ℕ) → IsToken (word All) w → DoesntBegin is_ascii_alphabetic rest
    → bytes ≡ w ++ rest → FrontOf (word All) bytes rest
unfolding word_in
word_all bytes rest w (inl s) d e =
    word_front (word All) 65 (78 ∷ 68 ∷ []) bytes rest refl refl d (e ∙ ap (λ (x : List ℕ). x ++ rest) s)
word_all bytes rest w (inr (inl s)) d e =
    word_front (word All) 65 (110 ∷ 100 ∷ []) bytes rest refl refl d (e ∙ ap (λ (x : List ℕ). x ++ rest) s)
word_all bytes rest w (inr (inr s)) d e =
    word_front (word All) 97 (110 ∷ 100 ∷ []) bytes rest refl refl d (e ∙ ap (λ (x : List ℕ). x ++ rest) s)

pub word_any : (bytes rest w : List ℕ) → IsToken (word Any) w → DoesntBegin is_ascii_alphabetic rest
    → bytes ≡ w ++ rest → FrontOf (word Any) bytes rest
unfolding word_in
word_any bytes rest w (inl s) d e =
    word_front (word Any) 79 (82 ∷ []) bytes rest refl refl d (e ∙ ap (λ (x : List ℕ). x ++ rest) s)
word_any bytes rest w (inr (inl s)) d e =
    word_front (word Any) 79 (114 ∷ []) bytes rest refl refl d (e ∙ ap (λ (x : List ℕ). x ++ rest) s)
word_any bytes rest w (inr (inr s)) d e =
    word_front (word Any) 111 (114 ∷ []) bytes rest refl refl d (e ∙ ap (λ (x : List ℕ). x ++ rest) s)

pub word_out_of : (bytes rest w : List ℕ) → IsToken (word OutOf) w → DoesntBegin is_ascii_alphabetic rest
    → bytes ≡ w ++ rest → FrontOf (word OutOf) bytes rest
unfolding word_in
word_out_of bytes rest w (inl s) d e =
    word_front (word OutOf) 79 (117 ∷ 116 ∷ 79 ∷ 102 ∷ []) bytes rest refl refl d (e ∙ ap (λ (x : List ℕ). x ++ rest) s)
word_out_of bytes rest w (inr (inl s)) d e =
    word_front (word OutOf) 111 (117 ∷ 116 ∷ 111 ∷ 102 ∷ []) bytes rest refl refl d (e ∙ ap (λ (x : List ℕ). x ++ rest) s)
word_out_of bytes rest w (inr (inr s)) d e =
    word_front (word OutOf) 79 (85 ∷ 84 ∷ 79 ∷ 70 ∷ []) bytes rest refl refl d (e ∙ ap (λ (x : List ℕ). x ++ rest) s)

-- ---- numbers

pub digit_front : (a : ℕ) (bytes : List ℕ) → is_ascii_digit a ≡ true → front_at (a ∷ bytes) ≡ number_at (a ∷ bytes)
unfolding front_at
digit_front a bytes h =
    let e1 : (a == 40) ≡ false = grind (arith, nat_tests) in
    let e2 : (a == 41) ≡ false = grind (arith, nat_tests) in
    let e3 : (a == 44) ≡ false = grind (arith, nat_tests) in
    let e4 : (a == 39) ≡ false = grind (arith, nat_tests) in
    let e5 : (a == 34) ≡ false = grind (arith, nat_tests) in
    rw (e1, e2, e3, e4, e5, h) refl

pub number_run : (w rest : List ℕ) → Each is_ascii_digit w → DoesntBegin is_ascii_digit rest
    → number_at (w ++ rest) ≡ (number_in w, rest)
unfolding number_at
number_run w rest h d =
    rw (run_len is_ascii_digit w rest h d, take_at w rest (length w) refl, drop_at w rest (length w) refl) refl

pub digit_is : (a : ℕ) → is_ascii_digit a ≡ true → digit_value a ≡ a - 48
digit_is a h =
    let r : IsInRange 48 57 a = (grind (arith, nat_tests), grind (arith, nat_tests)) in omega (arith, digit_value_digit a r)

-- what the digits are worth
pub number_value : (w : List ℕ) → Each is_ascii_digit w → 1 ≤ length w → length w ≤ 3
    → number_in w ≡ number (digits_value 10 w)
number_value [] h some few = absurd (omega arith)
number_value (a ∷ []) h some few = let e : a - 48 ≡ 0 + digit_value a = omega (arith, digit_is a h.0) in ap number e
number_value (a ∷ b ∷ []) h some few =
    let e : (a - 48) * 10 + (b - 48) ≡ (0 + digit_value a) * 10 + digit_value b = omega (arith, digit_is a h.0, digit_is b h.1.0) in
    ap number e
number_value (a ∷ b ∷ c ∷ []) h some few =
    let e : (a - 48) * 100 + (b - 48) * 10 + (c - 48) ≡ ((0 + digit_value a) * 10 + digit_value b) * 10 + digit_value c = omega (arith, digit_is a h.0, digit_is b h.1.0, digit_is c h.1.1.0) in
    ap number e
number_value (a ∷ b ∷ c ∷ d ∷ w) h some few = absurd (omega arith)

pub number_front : (n : ℕ) (w bytes rest : List ℕ) → IsToken (number n) w → DoesntBegin is_ascii_digit rest
    → bytes ≡ w ++ rest → FrontOf (number n) bytes rest
number_front n [] bytes rest t d e = absurd (omega (arith, t.1))
number_front n (a ∷ w) bytes rest t d e =
    let h = each_of_pass is_ascii_digit (a ∷ w) t.0 in
    let h0 : is_ascii_digit a ≡ true = h.0 in
    let s : (a == 32) ≡ false = grind (arith, nat_tests) in
    let f : front_at ((a ∷ w) ++ rest) ≡ (number n, rest) = digit_front a (w ++ rest) h0 ∙ number_run (a ∷ w) rest h d ∙ ap (λ (x : Token). (x, rest)) (number_value (a ∷ w) h t.1 t.2 ∙ ap number (sym t.3)) in
    subst (λ (x : List ℕ). FrontOf (number n) x rest) (sym e) (f, s)
