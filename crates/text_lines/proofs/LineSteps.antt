-- One step of `lines`.
use Rattle.std.proofs.Common.{◌≡◌, ℕ, ◌+◌, ◌-◌, ◌<◌, ◌≤◌, add-one, false, true, List, [], ◌∷◌, ◌++◌, length, get_or, take, drop, cond, sym, ap, subst, refl, ◌∙◌, inl, inr, eq-eqb, eqb, eqb-true, arith, length-drop}
use Rattle.std.specs.List.{All, slice_split}
use Rattle.std.specs.Char.{encode_utf8, is_newline}
use Rattle.std.specs.Str.{NoCharPasses}
use Rattle.std.specs.Str.Lines.{IsFirstLine, StripsCarriageReturn, lines, lines_of_parts, strip_carriage_return}
use Rattle.std.proofs.lemmas.Bool.{cases_lt, ne_eqb}
use Rattle.std.proofs.lemmas.List.{nil_from_length, take-append-drop, take_all, get_or_default}
use Rattle.std.proofs.lemmas.List.Splits.{slice_split_none, slice_split_at, length-slice_split}
use Rattle.std.proofs.lemmas.Str.{encode_ascii}
use Rattle.std.proofs.lemmas.Str.Pattern.{NoCharPasses-char}
use Rattle.std.proofs.lemmas.Grind.{common_steps}
use Rattle.text_lines.specs.Lines.{Statement, trimmed, says_nothing, statements_from}
use Rattle.text_lines.specs.Statements.{statements_after}

stripped : (line x : List ℕ) → StripsCarriageReturn line x → strip_carriage_return line ≡ x
stripped [] x (inl h) = sym h.0
stripped (b ∷ line) x (inl h) = ap (λ t. cond t (take (length (b ∷ line) - 1) (b ∷ line)) (b ∷ line)) (ne_eqb _ 13 (h.1 (omega arith))) ∙ sym h.0
stripped line x (inr e) =
    let last : get_or line (length line - 1) 0 ≡ 13 = grind (arith, common_steps) in
    let front : take (length line - 1) line ≡ x = grind (arith, common_steps) in
    ap (λ t. cond t (take (length line - 1) line) line) (eq-eqb _ 13 last) ∙ front

lines_of_parts-cons : (x : List ℕ) (parts : List (List ℕ)) → 0 < length parts → lines_of_parts (x ∷ parts) ≡ strip_carriage_return x ∷ lines_of_parts parts
lines_of_parts-cons x [] l = absurd (omega arith)
lines_of_parts-cons x (y ∷ more) l = refl

no_line_feed : (bs : List ℕ) → NoCharPasses is_newline bs → All (λ b. eqb b 10 ≡ false) bs
no_line_feed bs none = λ k d l. ne_eqb _ 10 (λ e. NoCharPasses-char 10 bs k none (omega arith) l (get_or_default bs k 0 d l ∙ e))

-- a text that is not empty begins with its first line
pub lines_first : (text x rest : List ℕ) → 0 < length text → IsFirstLine text x rest → lines text ≡ x ∷ lines rest
lines_first text x rest some h =
    let n : ℕ = h.0 in
    let p = λ (b : ℕ). eqb b 10 in
    let front : All (λ b. eqb b 10 ≡ false) (take n text) = no_line_feed (take n text) h.1 in
    elim (cases_lt n (length text)) [
      | inl l ↦
          let o = h.2 (omega (arith, length-drop n text)) in
          let after : drop n text ≡ 10 ∷ rest = o.2 ∙ ap (λ d. encode_utf8 d ++ rest) (eqb-true o.0 10 o.1) ∙ ap (λ v. v ++ rest) (encode_ascii 10 (omega arith)) in
          ap lines (sym (take-append-drop n text) ∙ ap (λ v. take n text ++ v) after) ∙ ap lines_of_parts (slice_split_at p (take n text) 10 rest front refl)
          ∙ lines_of_parts-cons (take n text) (slice_split p rest) (omega (arith, length-slice_split p rest)) ∙ ap (λ v. v ∷ lines rest) (stripped (take n text) x (h.5 l))
      | inr l ↦
          let fits : n + length rest ≤ length text = h.3 in
          ap lines_of_parts (slice_split_none p text (subst (All (λ b. eqb b 10 ≡ false)) (take_all n text l) front)) ∙ ap (λ t. cond t [] (text ∷ [])) (ne_eqb (length text) 0 (λ z. omega arith))
          ∙ (λ i. sym (h.4 (omega arith)) i ∷ lines (sym (nil_from_length rest (omega arith)) i))
    ]

-- what follows the first line is shorter than the text
pub rest_is_shorter : (text x rest : List ℕ) → 0 < length text → IsFirstLine text x rest → length rest < length text
rest_is_shorter text x rest some h =
    let n : ℕ = h.0 in
    let fits : n + length rest ≤ length text = h.3 in
    elim (cases_lt n (length text)) [
      | inl l ↦
          let o = h.2 (omega (arith, length-drop n text)) in
          let after : drop n text ≡ 10 ∷ rest = o.2 ∙ ap (λ d. encode_utf8 d ++ rest) (eqb-true o.0 10 o.1) ∙ ap (λ v. v ++ rest) (encode_ascii 10 (omega arith)) in
          omega (arith, length-drop n text, ap length after)
      | inr l ↦ omega arith
    ]

-- the statements of a text from its first line on
pub statements_first : (n : ℕ) (text x rest : List ℕ) → 0 < length text → IsFirstLine text x rest
    → statements_from n (lines text) ≡ cond (says_nothing (trimmed x)) (statements_from (n + 1) (lines rest)) (record { line = n; bytes = trimmed x } ∷ statements_from (n + 1) (lines rest))
statements_first n text x rest some h = ap (statements_from n) (lines_first text x rest some h) ∙ rw add-one refl

module _ (taken : ℕ) (text x rest bytes : List ℕ) (left : List Statement) (some : 0 < length text) (first : IsFirstLine text x rest) (is : bytes ≡ trimmed x)
    (so_far : statements_after taken text ≡ left) where
  -- by whether the trimmed line says nothing
  by_test : left ≡ cond (says_nothing bytes) (statements_after (taken + 1) rest) (record { line = taken + 1; bytes = bytes } ∷ statements_after (taken + 1) rest)
  by_test = sym so_far ∙ statements_first (taken + 1) text x rest some first
      ∙ ap (λ (b : List ℕ). cond (says_nothing b) (statements_after (taken + 1) rest) (record { line = taken + 1; bytes = b } ∷ statements_after (taken + 1) rest)) (sym is)

  -- a line that says nothing leaves what was left
  pub passes_over : says_nothing bytes ≡ true → statements_after (taken + 1) rest ≡ left
  passes_over nothing =
      sym (by_test ∙ ap (λ b. cond b (statements_after (taken + 1) rest) (record { line = taken + 1; bytes = bytes } ∷ statements_after (taken + 1) rest)) nothing)

  -- a line that says something is the first of what was left
  pub gives : says_nothing bytes ≡ false → left ≡ record { line = taken + 1; bytes = bytes } ∷ statements_after (taken + 1) rest
  gives something =
      by_test ∙ ap (λ b. cond b (statements_after (taken + 1) rest) (record { line = taken + 1; bytes = bytes } ∷ statements_after (taken + 1) rest)) something
