-- The token that is computed is the one that stands there.
use Rattle.std.proofs.Common.{◌≡◌, ◌≢◌, ℕ, zero, suc, ◌-◌, ◌+◌, ◌*◌, ◌≤◌, ◌<◌, Bool, true, false, cond, List, [], ◌∷◌, ◌++◌, length, take, drop, refl, sym, ap, ◌∙◌, subst, append_assoc, length-append, inl, inr, arith}
use Rattle.std.proofs.Math.Numerals.{add-one}
use Rattle.std.specs.Prelude.{◌==◌, ◌||◌, ◌⊎◌, codes}
use Rattle.std.specs.Char.{is_ascii_digit, is_ascii_alphabetic}
use Rattle.std.specs.List.{AllPass, prefix_len, position_or_len}
use Rattle.std.specs.Str.{bytes_eq}
use Rattle.std.proofs.lemmas.Bool.{eqb-true}
use Rattle.std.proofs.lemmas.Bool.Decides.{nat_tests}
use Rattle.std.proofs.lemmas.List.{take-append-drop}
use Rattle.std.proofs.lemmas.Slice.Eq.{bytes_eq-Decides}
use Rattle.policy.specs.declared.token.Word.TheVariants.{All, Any, OutOf}
use Rattle.policy.specs.Token.{Token, opening, closing, comma, word, number, principal_token, no_principal, broken, ended, named, IsQuote, quoted, IsToken, DoesntBegin, Ends, BeginsWith, IsAt}
use Rattle.policy.specs.Lexing.{after_spaces, principal_in, quoted_at, number_in, number_at, word_in, word_at, front_at}
use Rattle.policy.proofs.Runs.{Each, each_of_pass, pass_of_each, run_each, run_ends, skip}
use Rattle.policy.proofs.Words.{FrontOf, word_all, word_any, word_out_of, number_value, number_front}
use Rattle.policy.proofs.Quotes.{PrincipalIs, principal_is, same_principal, same_no_principal, IsNot, quoted_front, named_no_quote}

-- ---- what is spelled is what is computed

one_front : (t : Token) (b : ℕ) (w bytes rest : List ℕ) → front_at (b ∷ rest) ≡ (t, rest) → (b == 32) ≡ false
    → w ≡ b ∷ [] → bytes ≡ w ++ rest → FrontOf t bytes rest
one_front t b w bytes rest f s spelled e =
    subst (λ (x : List ℕ). FrontOf t x rest) (sym (e ∙ ap (λ (x : List ℕ). x ++ rest) spelled)) (f, s)

pub front_spelled : (t : Token) (bytes rest : List ℕ) → BeginsWith t bytes rest → FrontOf t bytes rest
unfolding front_at
front_spelled opening bytes rest b = one_front opening 40 b.spelled_by bytes rest refl refl b.spelled b.parts
front_spelled closing bytes rest b = one_front closing 41 b.spelled_by bytes rest refl refl b.spelled b.parts
front_spelled comma bytes rest b = one_front comma 44 b.spelled_by bytes rest refl refl b.spelled b.parts
front_spelled (word All) bytes rest b = word_all bytes rest b.spelled_by b.spelled b.ends b.parts
front_spelled (word Any) bytes rest b = word_any bytes rest b.spelled_by b.spelled b.ends b.parts
front_spelled (word OutOf) bytes rest b = word_out_of bytes rest b.spelled_by b.spelled b.ends b.parts
front_spelled (number n) bytes rest b = number_front n b.spelled_by bytes rest b.spelled b.ends b.parts
front_spelled (principal_token org role) bytes rest b =
    let s = b.spelled in
    quoted_front (principal_token org role) s.0 (named org role) b.spelled_by bytes rest s.1 (named_no_quote s.0 org role s.1 s.2) (same_principal org role (principal_in (named org role)) s.2 (principal_is (named org role))) s.3 b.parts
front_spelled no_principal bytes rest b =
    let s = b.spelled in
    quoted_front no_principal s.0 s.1 b.spelled_by bytes rest s.2 (each_of_pass (IsNot s.0) s.1 s.3) (same_no_principal s.1 (principal_in s.1) s.4 (principal_is s.1)) s.5 b.parts
front_spelled broken bytes rest b = absurd b.spelled
front_spelled ended bytes rest b = absurd b.spelled

-- ---- what is computed is spelled

pick : {A : Type 0} (P : A → Type 0) (b : Bool) (x y : A) → (b ≡ true → P x) → (b ≡ false → P y) → P (cond b x y)
pick P true x y f g = f refl
pick P false x y f g = g refl

-- the token that is computed stands there, or none does
abbrev pub FrontIs : List ℕ → Token × List ℕ → Type 0
FrontIs bytes x = (x.0 ≡ broken) ⊎ IsAt x.0 bytes x.1

one_found : (t : Token) (b c : ℕ) (rest : List ℕ) → IsToken t (c ∷ []) → Ends t rest → b ≡ c
    → BeginsWith t (b ∷ rest) rest
one_found t b c rest spelled ends e =
    record { spelled_by = c ∷ []; spelled = spelled; parts = ap (λ (x : ℕ). x ∷ rest) e; ends = ends }

number_inj : (m n : ℕ) → number m ≡ number n → m ≡ n
number_inj m n e = cc

number_found : (xs w r : List ℕ) → xs ≡ w ++ r → Each is_ascii_digit w → DoesntBegin is_ascii_digit r
    → FrontIs xs (number_in w, r)
number_found xs [] r e h d = inl refl
number_found xs (a ∷ []) r e h d =
    let v = number_inj (a - 48) _ (number_value (a ∷ []) h (omega arith) (omega arith)) in
    inr (record { spelled_by = a ∷ []; spelled = (pass_of_each is_ascii_digit (a ∷ []) h, omega arith, omega arith, v); parts = e; ends = d })
number_found xs (a ∷ b ∷ []) r e h d =
    let v = number_inj ((a - 48) * 10 + (b - 48)) _ (number_value (a ∷ b ∷ []) h (omega arith) (omega arith)) in
    inr (record { spelled_by = a ∷ b ∷ []; spelled = (pass_of_each is_ascii_digit (a ∷ b ∷ []) h, omega arith, omega arith, v); parts = e; ends = d })
number_found xs (a ∷ b ∷ c ∷ []) r e h d =
    let v = number_inj ((a - 48) * 100 + (b - 48) * 10 + (c - 48)) _ (number_value (a ∷ b ∷ c ∷ []) h (omega arith) (omega arith)) in
    inr (record { spelled_by = a ∷ b ∷ c ∷ []; spelled = (pass_of_each is_ascii_digit (a ∷ b ∷ c ∷ []) h, omega arith, omega arith, v); parts = e; ends = d })
number_found xs (a ∷ b ∷ c ∷ x ∷ w) r e h d = inl refl

or_cases : (a b : Bool) → (a || b) ≡ true → (a ≡ true) ⊎ (b ≡ true)
or_cases true b e = inl refl
or_cases false b e = inr e

spelling_of : (w a b c : List ℕ) → (bytes_eq w a || (bytes_eq w b || bytes_eq w c)) ≡ true
    → (w ≡ a) ⊎ ((w ≡ b) ⊎ (w ≡ c))
spelling_of w a b c e =
    elim (or_cases (bytes_eq w a) (bytes_eq w b || bytes_eq w c) e) [
      | inl h ↦ inl ((bytes_eq-Decides w a).0 h)
      | inr h ↦ elim (or_cases (bytes_eq w b) (bytes_eq w c) h) [
        | inl k ↦ inr (inl ((bytes_eq-Decides w b).0 k))
        | inr k ↦ inr (inr ((bytes_eq-Decides w c).0 k))
      ]
    ]

word_found : (xs w r : List ℕ) → xs ≡ w ++ r → DoesntBegin is_ascii_alphabetic r → FrontIs xs (word_in w, r)
unfolding word_in
word_found xs w r e d =
    pick (λ (t : Token). FrontIs xs (t, r)) _ (word All) _ (λ h. inr (record { spelled_by = w; spelled = spelling_of w (codes "AND") (codes "And") (codes "and") h; parts = e; ends = d })) (λ h1.
    pick (λ (t : Token). FrontIs xs (t, r)) _ (word Any) _ (λ h. inr (record { spelled_by = w; spelled = spelling_of w (codes "OR") (codes "Or") (codes "or") h; parts = e; ends = d })) (λ h2.
    pick (λ (t : Token). FrontIs xs (t, r)) _ (word OutOf) broken (λ h. inr (record { spelled_by = w; spelled = spelling_of w (codes "OutOf") (codes "outof") (codes "OUTOF") h; parts = e; ends = d })) (λ h3. inl refl)))

drop_quote : (q n : ℕ) (xs : List ℕ) → n < length xs → DoesntBegin (IsNot q) (drop n xs)
    → drop n xs ≡ q ∷ drop (suc n) xs
drop_quote q n [] lt d = absurd (omega arith)
drop_quote q zero (x ∷ xs) lt d = let e : x ≡ q = grind (arith, nat_tests) in ap (λ (y : ℕ). y ∷ xs) e
drop_quote q (suc n) (x ∷ xs) lt d = drop_quote q n xs (omega arith) d

principal_found : (q : ℕ) (inside bytes rest : List ℕ) (t : Token) → IsQuote q → Each (IsNot q) inside
    → q ∷ bytes ≡ quoted q inside ++ rest → PrincipalIs inside t → FrontIs (q ∷ bytes) (t, rest)
unfolding PrincipalIs
principal_found q inside bytes rest (principal_token org role) quote h e p =
    inr (record { spelled_by = quoted q inside; spelled = (q, quote, p.0, ap (quoted q) p.1); parts = e; ends = tt })
principal_found q inside bytes rest no_principal quote h e p =
    inr (record { spelled_by = quoted q inside; spelled = (q, inside, quote, pass_of_each (IsNot q) inside h, p, refl); parts = e; ends = tt })
principal_found q inside bytes rest t quote h e p = absurd p

quoted_found : (q : ℕ) (bytes : List ℕ) → IsQuote q → FrontIs (q ∷ bytes) (quoted_at q bytes)
unfolding quoted_at
quoted_found q bytes quote =
    pick (λ (x : Token × List ℕ). FrontIs (q ∷ bytes) x) _ _ _ (λ h.
    let n = position_or_len (λ b. b == q) bytes in
    let lt : n < length bytes = grind (arith, nat_tests) in
    let inside = take n bytes in
    let next = drop_quote q n bytes lt (run_ends (IsNot q) bytes) in
    let rest : drop (n + 1) bytes ≡ drop (suc n) bytes = rw add-one refl in
    let parts : q ∷ bytes ≡ quoted q inside ++ drop (n + 1) bytes = ap (λ (x : List ℕ). q ∷ x) (sym (take-append-drop n bytes) ∙ ap (λ (x : List ℕ). inside ++ x) (next ∙ ap (λ (x : List ℕ). q ∷ x) (sym rest)) ∙ sym (append_assoc inside (q ∷ []) (drop (n + 1) bytes))) in
    principal_found q inside bytes (drop (n + 1) bytes) (principal_in inside) quote (run_each (IsNot q) bytes) parts (principal_is inside)) (λ h. inl refl)

pub front_found : (bytes : List ℕ) → FrontIs bytes (front_at bytes)
unfolding front_at number_at word_at
front_found [] = inr (refl, refl)
front_found (b ∷ bytes) =
    let P : Token × List ℕ → Type 0 = λ x. FrontIs (b ∷ bytes) x in
    pick P (b == 40) _ _ (λ e. inr (one_found opening b 40 bytes refl tt (eqb-true b 40 e))) (λ h1.
    pick P (b == 41) _ _ (λ e. inr (one_found closing b 41 bytes refl tt (eqb-true b 41 e))) (λ h2.
    pick P (b == 44) _ _ (λ e. inr (one_found comma b 44 bytes refl tt (eqb-true b 44 e))) (λ h3.
    pick P (b == 39) _ _ (λ e. subst (λ (x : ℕ). FrontIs (x ∷ bytes) (quoted_at 39 bytes)) (sym (eqb-true b 39 e)) (quoted_found 39 bytes (inl refl))) (λ h4.
    pick P (b == 34) _ _ (λ e. subst (λ (x : ℕ). FrontIs (x ∷ bytes) (quoted_at 34 bytes)) (sym (eqb-true b 34 e)) (quoted_found 34 bytes (inr refl))) (λ h5.
    pick P (is_ascii_digit b) _ _
    (λ e. let n = prefix_len is_ascii_digit (b ∷ bytes) in number_found (b ∷ bytes) (take n (b ∷ bytes)) (drop n (b ∷ bytes)) (sym (take-append-drop n (b ∷ bytes))) (run_each is_ascii_digit (b ∷ bytes)) (run_ends is_ascii_digit (b ∷ bytes)))
    (λ h6. let n = prefix_len is_ascii_alphabetic (b ∷ bytes) in word_found (b ∷ bytes) (take n (b ∷ bytes)) (drop n (b ∷ bytes)) (sym (take-append-drop n (b ∷ bytes))) (run_ends is_ascii_alphabetic (b ∷ bytes))))))))

-- ---- behind spaces

-- every token has a byte
pub token_some : (t : Token) (w : List ℕ) → IsToken t w → 1 ≤ length w
token_some opening w s = omega (arith, ap length s)
token_some closing w s = omega (arith, ap length s)
token_some comma w s = omega (arith, ap length s)
token_some (word All) w (inl s) = omega (arith, ap length s)
token_some (word All) w (inr (inl s)) = omega (arith, ap length s)
token_some (word All) w (inr (inr s)) = omega (arith, ap length s)
token_some (word Any) w (inl s) = omega (arith, ap length s)
token_some (word Any) w (inr (inl s)) = omega (arith, ap length s)
token_some (word Any) w (inr (inr s)) = omega (arith, ap length s)
token_some (word OutOf) w (inl s) = omega (arith, ap length s)
token_some (word OutOf) w (inr (inl s)) = omega (arith, ap length s)
token_some (word OutOf) w (inr (inr s)) = omega (arith, ap length s)
token_some (number n) w s = s.1
token_some (principal_token org role) w s = omega (arith, ap length s.3)
token_some no_principal w s = omega (arith, ap length s.5)
token_some broken w s = absurd s
token_some ended w s = absurd s

pub begins_shorter : (t : Token) (bytes rest : List ℕ) → BeginsWith t bytes rest → length rest < length bytes
begins_shorter t bytes rest b =
    omega (arith, token_some t b.spelled_by b.spelled, ap length b.parts, length-append b.spelled_by rest)

-- a text begins with one token at most
pub front_is : (t : Token) (bytes rest : List ℕ) → t ≢ broken → IsAt t bytes rest → FrontOf t bytes rest
front_is broken bytes rest whole a = absurd (whole refl)
front_is ended bytes rest whole a =
    unfold front_at in subst (λ (x : List ℕ). FrontOf ended bytes x) (sym a.1) (subst (λ (x : List ℕ). FrontOf ended x []) (sym a.0) (refl, tt))
front_is t bytes rest whole a = front_spelled t bytes rest a

pub skip_spaces : (spaces after : List ℕ) → AllPass (λ b. b == 32) spaces → DoesntBegin (λ b. b == 32) after
    → after_spaces (spaces ++ after) ≡ after
skip_spaces spaces after h d = skip spaces after (each_of_pass (λ b. b == 32) spaces h) d

pub blank_pass : (spaces : List ℕ) → Each (λ b. b == 32) spaces → AllPass (λ b. b == 32) spaces
blank_pass spaces h = pass_of_each (λ b. b == 32) spaces h
