-- Escaped text stays between its quotes.
use Rattle.std.proofs.Common.{◌≡◌, ◌<◌, ◌≤◌, ℕ, ◌+◌, ◌/◌, ◌%◌, Bool, true, false, cond, List, [], ◌∷◌, ◌++◌, Option, Some, None, refl, sym, ap, ◌∙◌, append_assoc, eqb-true, arith}
use Rattle.std.specs.Prelude.{◌==◌, nat_lt}
use Rattle.std.specs.List.{flat_map}
use Rattle.std.proofs.lemmas.Bool.{ltb-true, ltb-false, ne_eqb}
use Rattle.std.proofs.lemmas.List.{append-nil}
use Rattle.std.proofs.lemmas.Grind.{flat_map-append}
use Rattle.text_lines.specs.Printed.{upper_digit, byte_spelling, word_of}
use Rattle.text_lines.specs.Words.{stands_for_itself}
use Rattle.dot_lines.specs.Dot.{named_byte, escaped_byte, escaped, quoted_byte, behind, read_string, StaysQuoted, AreEscaped}

-- a byte that is neither a quote nor a backslash, nor begins a name
plain : (b : ℕ) (more : List ℕ) → (b == 34) ≡ false → (b == 92) ≡ false → read_string false (b ∷ more) ≡ behind (b ∷ []) (read_string false more)
plain b more quote slash = ap (λ t. cond t (Some ([], more)) (cond (b == 92) (read_string true more) (behind (b ∷ []) (read_string false more)))) quote
    ∙ ap (λ t. cond t (read_string true more) (behind (b ∷ []) (read_string false more))) slash

twice : (x y : List ℕ) (o : Option (List ℕ × List ℕ)) → behind x (behind y o) ≡ behind (x ++ y) o
twice x y None = refl
twice x y (Some p) = ap (λ l. Some (l, p.1)) (sym (append_assoc x y p.0))

name : (more : List ℕ) → read_string false (38 ∷ 97 ∷ 109 ∷ 112 ∷ 59 ∷ more) ≡ behind (38 ∷ 97 ∷ 109 ∷ 112 ∷ 59 ∷ []) (read_string false more)
name more =
    let o = read_string false more in
    ap (λ x. behind (38 ∷ []) (behind (97 ∷ []) (behind (109 ∷ []) x))) (twice (112 ∷ []) (59 ∷ []) o)
    ∙ ap (λ x. behind (38 ∷ []) (behind (97 ∷ []) x)) (twice (109 ∷ []) (112 ∷ 59 ∷ []) o)
    ∙ ap (λ x. behind (38 ∷ []) x) (twice (97 ∷ []) (109 ∷ 112 ∷ 59 ∷ []) o)
    ∙ twice (38 ∷ []) (97 ∷ 109 ∷ 112 ∷ 59 ∷ []) o

by : (b : ℕ) (more : List ℕ) (quote slash ampersand : Bool) → (b == 34) ≡ quote → (b == 92) ≡ slash → (b == 38) ≡ ampersand
    → read_string false (cond quote (92 ∷ 34 ∷ []) (cond slash (92 ∷ 92 ∷ []) (cond ampersand (38 ∷ 97 ∷ 109 ∷ 112 ∷ 59 ∷ []) (b ∷ []))) ++ more)
    ≡ behind (cond ampersand (38 ∷ 97 ∷ 109 ∷ 112 ∷ 59 ∷ []) (b ∷ [])) (read_string false more)
by b more true slash true q s a = absurd (omega (arith, eqb-true b 34 q, eqb-true b 38 a))
by b more true slash false q s a = ap (λ x. behind (x ∷ []) (read_string false more)) (sym (eqb-true b 34 q))
by b more false true true q s a = absurd (omega (arith, eqb-true b 92 s, eqb-true b 38 a))
by b more false true false q s a = ap (λ x. behind (x ∷ []) (read_string false more)) (sym (eqb-true b 92 s))
by b more false false true q s a = name more
by b more false false false q s a = plain b more q s

one : (b : ℕ) (more : List ℕ) → read_string false (escaped_byte b ++ more) ≡ behind (named_byte b) (read_string false more)
one b more = by b more (b == 34) (b == 92) (b == 38) refl refl refl

pub stays_quoted : StaysQuoted
stays_quoted [] rest = refl
stays_quoted (b ∷ text) rest =
    ap (read_string false) (append_assoc (escaped_byte b) (escaped text) (34 ∷ rest)) ∙ one b (escaped text ++ 34 ∷ rest)
    ∙ ap (behind (named_byte b)) (stays_quoted text rest)

all_escaped : (bytes : List ℕ) → flat_map quoted_byte bytes ≡ escaped (flat_map byte_spelling bytes)
all_escaped [] = refl
all_escaped (b ∷ more) =
    ap (λ l. quoted_byte b ++ l) (all_escaped more) ∙ sym (flat_map-append escaped_byte (byte_spelling b) (flat_map byte_spelling more))

pub are_escaped : AreEscaped
are_escaped [] = refl
are_escaped (b ∷ more) = all_escaped (b ∷ more)

-- ---- a byte that isn't escaped

not_escaped : (b : ℕ) → (b == 34) ≡ false → (b == 92) ≡ false → (b == 38) ≡ false → escaped_byte b ≡ b ∷ []
not_escaped b q s a = rw (q, s, a) refl

digit_by : (v : ℕ) (small : Bool) → nat_lt v 10 ≡ small → v < 16 → escaped_byte (cond small (48 + v) (55 + v)) ≡ cond small (48 + v) (55 + v) ∷ []
digit_by v true e h =
    let l : v < 10 = ltb-true v 10 e in
    not_escaped (48 + v) (ne_eqb (48 + v) 34 (omega (arith, l))) (ne_eqb (48 + v) 92 (omega (arith, l))) (ne_eqb (48 + v) 38 (omega (arith, l)))
digit_by v false e h =
    let l : 10 ≤ v = ltb-false v 10 e in
    not_escaped (55 + v) (ne_eqb (55 + v) 34 (omega (arith, l, h))) (ne_eqb (55 + v) 92 (omega (arith, l, h))) (ne_eqb (55 + v) 38 (omega (arith, l, h)))

digit : (v : ℕ) → v < 16 → escaped_byte (upper_digit v) ≡ upper_digit v ∷ []
digit v h = digit_by v (nat_lt v 10) refl h

spelled_by : (b : ℕ) (stands : Bool) → b < 256 → (b == 34) ≡ false → (b == 92) ≡ false → (b == 38) ≡ false
    → escaped (cond stands (b ∷ []) (37 ∷ upper_digit (b / 16) ∷ upper_digit (b % 16) ∷ [])) ≡ cond stands (b ∷ []) (37 ∷ upper_digit (b / 16) ∷ upper_digit (b % 16) ∷ [])
spelled_by b true h q s a = append-nil (escaped_byte b) ∙ not_escaped b q s a
spelled_by b false h q s a =
    ap (λ l. 37 ∷ (l ++ (escaped_byte (upper_digit (b % 16)) ++ []))) (digit (b / 16) (omega (arith, h)))
    ∙ ap (λ l. 37 ∷ upper_digit (b / 16) ∷ (l ++ [])) (digit (b % 16) (omega arith))

-- any other byte is encoded as it is in a word
pub other_byte : (b : ℕ) → b < 256 → (b == 34) ≡ false → (b == 92) ≡ false → (b == 38) ≡ false → word_of (b ∷ []) ≡ quoted_byte b
other_byte b h q s a = append-nil (byte_spelling b) ∙ sym (spelled_by b (stands_for_itself b) h q s a)
