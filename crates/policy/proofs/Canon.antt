-- The canonical text spells the same tree, and is no longer.
use Rattle.std.proofs.Common.{◌≡◌, ◌≢◌, ℕ, zero, suc, ◌-◌, ◌+◌, ◌^◌, ◌<◌, ◌≤◌, ◌/◌, ◌%◌, Bool, true, false, cond, List, [], ◌∷◌, ◌++◌, length, refl, sym, ap, ◌∙◌, subst, append_assoc, length-append, inl, inr, arith}
use Rattle.std.specs.Prelude.{◌==◌, codes}
use Rattle.std.specs.Char.{is_ascii_digit}
use Rattle.std.specs.Fmt.{decimal}
use Rattle.std.specs.Str.Parse.{digits_value, AllDigits}
use Rattle.std.proofs.lemmas.Fmt.{decimal_by_steps, decimal_is_IsNumeral, length-decimal-le}
use Rattle.std.proofs.lemmas.Int.Digits.{digits_value-lt}
use Rattle.std.proofs.lemmas.Bool.{eqb-true}
use Rattle.std.proofs.lemmas.Bool.Decides.{nat_tests}
use Rattle.std.proofs.lemmas.List.{append-nil}
use Rattle.policy.specs.declared.tree.PolicyRole.{PolicyRole}
use Rattle.policy.specs.declared.token.Word.{Word}
use Rattle.policy.specs.declared.token.Word.TheVariants.{All, Any, OutOf}
use Rattle.policy.specs.Tree.{Tree, Trees, principal, gate, none, more}
use Rattle.policy.specs.Token.{Token, opening, closing, comma, word, number, principal_token, broken, ended, named, quoted, IsToken, Ends, BeginsWith, Spaced}
use Rattle.policy.specs.Grammar.{Spells, principal_is, all_is, any_is, out_of_is, SpellsMembers, last_is, more_are, count, IsPolicy}
use Rattle.policy.specs.Text.{text_of, texts_of, head_text, separator}
use Rattle.policy.proofs.Runs.{Each, each_append, each_of_pass, pass_of_each}
use Rattle.policy.proofs.Words.{digit_is}

-- ---- a token at the front

-- spelled without a space before it
put_token : (t : Token) (w : List ℕ) (ts : List Token) (rest : List ℕ) → IsToken t w → Ends t rest → Spaced ts rest
    → Spaced (t ∷ ts) (w ++ rest)
put_token broken w ts rest s e sp = absurd s
put_token ended w ts rest s e sp = absurd s
put_token t w ts rest s e sp =
    (rest, record { spaces = []; after = w ++ rest; blank = pass_of_each (λ b. b == 32) [] tt; parts = refl; here = record { spelled_by = w; spelled = s; parts = refl; ends = e } }, sp)

taken_len : (t : Token) (bytes after spaces rest : List ℕ) → bytes ≡ spaces ++ after → (b : BeginsWith t after rest)
    → length b.spelled_by + length rest ≤ length bytes
taken_len t bytes after spaces rest e b =
    omega (arith, ap length e, length-append spaces after, ap length b.parts, length-append b.spelled_by rest)

-- ---- numbers

IsWritten : ℕ → List ℕ → Type 0
IsWritten n ds = Each is_ascii_digit ds × (1 ≤ length ds)

written_one : (n : ℕ) → n < 10 → IsWritten n ((48 + n) ∷ [])
unfolding IsWritten
written_one n lt = let d : is_ascii_digit (48 + n) ≡ true = grind (arith, nat_tests) in ((d, tt), omega arith)

written_more : (n : ℕ) (ds : List ℕ) → 10 ≤ n → IsWritten (n / 10) ds → IsWritten n (ds ++ ((48 + n % 10) ∷ []))
unfolding IsWritten
written_more n ds le h =
    let m : n % 10 < 10 = omega arith in
    let d : is_ascii_digit (48 + n % 10) ≡ true = grind (arith, nat_tests) in
    (each_append is_ascii_digit ds ((48 + n % 10) ∷ []) h.0 (d, tt), omega (arith, length-append ds ((48 + n % 10) ∷ [])))

number_text : (n : ℕ) → n < 1000 → IsToken (number n) (decimal n)
unfolding IsWritten
number_text n lt =
    let big : n < 2 ^ 64 = omega arith in
    let w = decimal_by_steps IsWritten written_one written_more n big in
    let v = (decimal_is_IsNumeral n big).1 in
    (pass_of_each is_ascii_digit (decimal n) w.0, w.1, length-decimal-le 3 n (omega arith) (omega arith) big, sym v)

all_digits : (w : List ℕ) → Each is_ascii_digit w → AllDigits 10 w
all_digits [] h = tt
all_digits (a ∷ w) h =
    let h0 : is_ascii_digit a ≡ true = h.0 in
    let d : a - 48 < 10 = grind (arith, nat_tests) in
    (omega (arith, digit_is a h0), all_digits w h.1)

power_few : (k : ℕ) → k ≤ 3 → 10 ^ k ≤ 1000
power_few zero le = omega arith
power_few (suc zero) le = omega arith
power_few (suc (suc zero)) le = omega arith
power_few (suc (suc (suc zero))) le = omega arith
power_few (suc (suc (suc (suc k)))) le = absurd (omega arith)

number_small : (n : ℕ) (w : List ℕ) → IsToken (number n) w → n < 1000
number_small n w s =
    let v : digits_value 10 w < 10 ^ length w = digits_value-lt 10 w (all_digits w (each_of_pass is_ascii_digit w s.0)) in
    omega (arith, s.3, power_few (length w) s.2)

number_short : (n : ℕ) (w : List ℕ) → IsToken (number n) w → length (decimal n) ≤ length w
number_short n w s =
    let v : digits_value 10 w < 10 ^ length w = digits_value-lt 10 w (all_digits w (each_of_pass is_ascii_digit w s.0)) in
    let u : n < 10 ^ length w = rw s.3 v in
    length-decimal-le (length w) n (omega (arith, s.1)) u (omega (arith, number_small n w s))

-- ---- the law

-- The text is spelled by tokens of the same tree, whatever follows, and no longer than the text that was read.
pub record Canon (t : Tree) (post : List Token) (bytes : List ℕ) : Type 0 where
  pub rest : List ℕ
  pub spaced : Spaced post rest
  pub tokens : List Token
  pub spells : Spells t tokens
  pub again : (ts : List Token) (behind : List ℕ) → Spaced ts behind → Spaced (tokens ++ ts) (text_of t ++ behind)
  pub short : length (text_of t) + length rest ≤ length bytes

pub record CanonMembers (ms : Trees) (post : List Token) (bytes : List ℕ) : Type 0 where
  pub rest : List ℕ
  pub spaced : Spaced post rest
  pub tokens : List Token
  pub spells : SpellsMembers ms tokens
  pub again : (ts : List Token) (behind : List ℕ) → Spaced ts behind → Spaced (tokens ++ ts) (texts_of ms ++ behind)
  pub short : length (texts_of ms) + length rest ≤ length bytes

principal_canon : (org : List ℕ) (role : PolicyRole) (post : List Token) (bytes : List ℕ)
    → Spaced (principal_token org role ∷ post) bytes → Canon (principal org role) post bytes
principal_canon org role post bytes sp =
    let b = sp.1.here in
    let s = b.spelled in
    let l = taken_len (principal_token org role) bytes sp.1.after sp.1.spaces sp.0 sp.1.parts b in
    let q : length b.spelled_by ≡ length (quoted 39 (named org role)) = ap length s.3 ∙ quoted_len s.0 39 (named org role) in
    record {
      rest = sp.0;
      spaced = sp.2;
      tokens = principal_token org role ∷ [];
      spells = principal_is;
      again =
          λ ts behind h. put_token (principal_token org role) (quoted 39 (named org role)) ts behind (39, inl refl, s.2, refl) tt h;
      short = omega (arith, l, q);
    }
  where
    quoted_len : (p q : ℕ) (inside : List ℕ) → length (quoted p inside) ≡ length (quoted q inside)
    quoted_len p q inside = ap suc (length-append inside (p ∷ []) ∙ sym (length-append inside (q ∷ [])))

-- the head of a gate, and its members
module _ (ms : Trees) (tokens : List Token) (spells : SpellsMembers ms tokens) (again : (ts : List Token) (behind : List ℕ) → Spaced ts behind → Spaced (tokens ++ ts) (texts_of ms ++ behind)) where
  pub record HeadCanon (n : ℕ) : Type 0 where
    pub head : List Token
    pub spelled : Spells (gate n ms) (head ++ tokens)
    pub anew : (ts : List Token) (behind : List ℕ) → Spaced ts behind
        → Spaced ((head ++ tokens) ++ ts) (text_of (gate n ms) ++ behind)

  paren : (ts : List Token) (behind : List ℕ) → Spaced ts behind
      → Spaced (opening ∷ (tokens ++ ts)) (40 ∷ (texts_of ms ++ behind))
  paren ts behind h = put_token opening (40 ∷ []) (tokens ++ ts) (texts_of ms ++ behind) refl tt (again ts behind h)

  or_head : (n : ℕ) (h : List ℕ) → n ≡ 1
      → h ≡ codes "OR(" → (x : Spells (gate 1 ms) (word Any ∷ opening ∷ tokens)) → head_text n (count ms) ≡ h → HeadCanon n
  or_head n h e hc x is =
      record {
        head = word Any ∷ opening ∷ [];
        spelled = subst (λ (m : ℕ). Spells (gate m ms) (word Any ∷ opening ∷ tokens)) (sym e) x;
        anew =
            λ ts behind k. subst (λ (y : List ℕ). Spaced (word Any ∷ opening ∷ (tokens ++ ts)) ((y ++ texts_of ms) ++ behind)) (sym (is ∙ hc)) (put_token (word Any) (79 ∷ 82 ∷ []) (opening ∷ (tokens ++ ts)) (40 ∷ (texts_of ms ++ behind)) (inl refl) refl (paren ts behind k));
      }

  and_head : (n : ℕ) (h : List ℕ) → n ≡ count ms → h ≡ codes "AND(" → head_text n (count ms) ≡ h → HeadCanon n
  and_head n h e hc is =
      record {
        head = word All ∷ opening ∷ [];
        spelled = subst (λ (m : ℕ). Spells (gate m ms) (word All ∷ opening ∷ tokens)) (sym e) (all_is spells);
        anew =
            λ ts behind k. subst (λ (y : List ℕ). Spaced (word All ∷ opening ∷ (tokens ++ ts)) ((y ++ texts_of ms) ++ behind)) (sym (is ∙ hc)) (put_token (word All) (65 ∷ 78 ∷ 68 ∷ []) (opening ∷ (tokens ++ ts)) (40 ∷ (texts_of ms ++ behind)) (inl refl) refl (paren ts behind k));
      }

  out_of_head : (n : ℕ) (h : List ℕ) → 1 ≤ n → n ≤ count ms → n < 1000
      → h ≡ codes "OutOf(" ++ decimal n ++ codes "," → head_text n (count ms) ≡ h → HeadCanon n
  out_of_head n h low high small hc is =
      record {
        head = word OutOf ∷ opening ∷ number n ∷ comma ∷ [];
        spelled = out_of_is low high spells;
        anew = λ ts behind k.
            let inside = texts_of ms ++ behind in
            let c : Spaced (comma ∷ (tokens ++ ts)) (44 ∷ inside) = put_token comma (44 ∷ []) (tokens ++ ts) inside refl tt (again ts behind k) in
            let m : Spaced (number n ∷ comma ∷ (tokens ++ ts)) (decimal n ++ 44 ∷ inside) = put_token (number n) (decimal n) (comma ∷ (tokens ++ ts)) (44 ∷ inside) (number_text n small) refl c in
            let l : Spaced (opening ∷ number n ∷ comma ∷ (tokens ++ ts)) (40 ∷ (decimal n ++ 44 ∷ inside)) = put_token opening (40 ∷ []) (number n ∷ comma ∷ (tokens ++ ts)) (decimal n ++ 44 ∷ inside) refl tt m in
            let w : Spaced (word OutOf ∷ opening ∷ number n ∷ comma ∷ (tokens ++ ts)) (codes "OutOf" ++ 40 ∷ (decimal n ++ 44 ∷ inside)) = put_token (word OutOf) (codes "OutOf") (opening ∷ number n ∷ comma ∷ (tokens ++ ts)) (40 ∷ (decimal n ++ 44 ∷ inside)) (inl refl) refl l in
            let whole : codes "OutOf" ++ 40 ∷ (decimal n ++ 44 ∷ inside) ≡ (head_text n (count ms) ++ texts_of ms) ++ behind = sym (ap (λ (y : List ℕ). (y ++ texts_of ms) ++ behind) (is ∙ hc) ∙ append_assoc (codes "OutOf(" ++ decimal n ++ codes ",") (texts_of ms) behind ∙ append_assoc (codes "OutOf(" ++ decimal n) (codes ",") inside) in
            subst (λ (y : List ℕ). Spaced (word OutOf ∷ opening ∷ number n ∷ comma ∷ (tokens ++ ts)) y) whole w;
      }

  head_case : (n : ℕ) (a b : Bool) → (n == 1) ≡ a → (n == count ms) ≡ b → 1 ≤ n → n ≤ count ms
      → (n ≢ count ms → n < 1000) → HeadCanon n
  head_case n true b e f low high small =
      let k : n ≡ 1 = eqb-true n 1 e in or_head n (codes "OR(") k refl (any_is spells) (rw e refl)
  head_case n false true e f low high small =
      and_head n (codes "AND(") (eqb-true n (count ms) f) refl (rw (e, f) refl)
  head_case n false false e f low high small =
      let apart : n ≢ count ms = grind (arith, nat_tests) in
      out_of_head n (codes "OutOf(" ++ decimal n ++ codes ",") low high (small apart) refl (rw (e, f) refl)

  pub head_canon : (n : ℕ) → 1 ≤ n → n ≤ count ms → (n ≢ count ms → n < 1000) → HeadCanon n
  head_canon n low high small = head_case n (n == 1) (n == count ms) refl refl low high small

-- ---- lengths

word_len : (w : Word) (bytes : List ℕ) → IsToken (word w) bytes → ℕ
word_len All bytes s = 3
word_len Any bytes s = 2
word_len OutOf bytes s = 5

all_len : (bytes : List ℕ) → IsToken (word All) bytes → length bytes ≡ 3
all_len bytes (inl s) = ap length s
all_len bytes (inr (inl s)) = ap length s
all_len bytes (inr (inr s)) = ap length s

any_len : (bytes : List ℕ) → IsToken (word Any) bytes → length bytes ≡ 2
any_len bytes (inl s) = ap length s
any_len bytes (inr (inl s)) = ap length s
any_len bytes (inr (inr s)) = ap length s

out_of_len : (bytes : List ℕ) → IsToken (word OutOf) bytes → length bytes ≡ 5
out_of_len bytes (inl s) = ap length s
out_of_len bytes (inr (inl s)) = ap length s
out_of_len bytes (inr (inr s)) = ap length s

head_all_case : (n : ℕ) (a b : Bool) → (n == n) ≡ b
    → length (cond a (codes "OR(") (cond b (codes "AND(") (codes "OutOf(" ++ decimal n ++ codes ","))) ≤ 4
head_all_case n true b e = omega arith
head_all_case n false true e = omega arith
head_all_case n false false e = let k : ⊥ = grind (arith, nat_tests) in absurd k

head_all_len : (n : ℕ) → length (head_text n n) ≤ 4
head_all_len n = head_all_case n (n == 1) (n == n) refl

head_some_case : (n : ℕ) (a b : Bool)
    → length (cond a (codes "OR(") (cond b (codes "AND(") (codes "OutOf(" ++ decimal n ++ codes ","))) ≤ 7 + length (decimal n)
head_some_case n true b = omega arith
head_some_case n false true = omega arith
head_some_case n false false =
    omega (arith, length-append (codes "OutOf(" ++ decimal n) (codes ","), length-append (codes "OutOf(") (decimal n))

head_some_len : (n c : ℕ) → length (head_text n c) ≤ 7 + length (decimal n)
head_some_len n c = head_some_case n (n == 1) (n == c)

-- ---- trees

gate_canon : (n : ℕ) (ms : Trees) (post : List Token) (bytes inside : List ℕ) (inner : CanonMembers ms post inside)
    → HeadCanon ms inner.tokens inner.spells inner.again n
    → length (head_text n (count ms)) + length inside ≤ length bytes → Canon (gate n ms) post bytes
gate_canon n ms post bytes inside inner h room =
    record {
      rest = inner.rest;
      spaced = inner.spaced;
      tokens = h.head ++ inner.tokens;
      spells = h.spelled;
      again = h.anew;
      short = omega (arith, inner.short, length-append (head_text n (count ms)) (texts_of ms));
    }

all_canon : (ms : Trees) (ts post : List Token) (bytes : List ℕ) → 1 ≤ count ms
    → Spaced (word All ∷ opening ∷ (ts ++ post)) bytes
    → ((inside : List ℕ) → Spaced (ts ++ post) inside → CanonMembers ms post inside)
    → Canon (gate (count ms) ms) post bytes
all_canon ms ts post bytes low sp members =
    let l = sp.2 in
    let inner = members l.0 l.2 in
    let a = taken_len (word All) bytes sp.1.after sp.1.spaces sp.0 sp.1.parts sp.1.here in
    let b = taken_len opening sp.0 l.1.after l.1.spaces l.0 l.1.parts l.1.here in
    gate_canon (count ms) ms post bytes l.0 inner (head_canon ms inner.tokens inner.spells inner.again (count ms) low (omega arith) (λ apart. absurd (apart refl))) (omega (arith, a, b, all_len sp.1.here.spelled_by sp.1.here.spelled, ap length l.1.here.spelled, head_all_len (count ms)))

any_canon : (ms : Trees) (ts post : List Token) (bytes : List ℕ) → 1 ≤ count ms
    → Spaced (word Any ∷ opening ∷ (ts ++ post)) bytes
    → ((inside : List ℕ) → Spaced (ts ++ post) inside → CanonMembers ms post inside) → Canon (gate 1 ms) post bytes
any_canon ms ts post bytes low sp members =
    let l = sp.2 in
    let inner = members l.0 l.2 in
    let a = taken_len (word Any) bytes sp.1.after sp.1.spaces sp.0 sp.1.parts sp.1.here in
    let b = taken_len opening sp.0 l.1.after l.1.spaces l.0 l.1.parts l.1.here in
    gate_canon 1 ms post bytes l.0 inner (head_canon ms inner.tokens inner.spells inner.again 1 (omega arith) low (λ apart. omega arith)) (omega (arith, a, b, any_len sp.1.here.spelled_by sp.1.here.spelled, ap length l.1.here.spelled))

out_of_canon : (n : ℕ) (ms : Trees) (ts post : List Token) (bytes : List ℕ) → 1 ≤ n → n ≤ count ms
    → Spaced (word OutOf ∷ opening ∷ number n ∷ comma ∷ (ts ++ post)) bytes
    → ((inside : List ℕ) → Spaced (ts ++ post) inside → CanonMembers ms post inside) → Canon (gate n ms) post bytes
out_of_canon n ms ts post bytes low high sp members =
    let l = sp.2 in
    let m = l.2 in
    let c = m.2 in
    let inner = members c.0 c.2 in
    let a = taken_len (word OutOf) bytes sp.1.after sp.1.spaces sp.0 sp.1.parts sp.1.here in
    let b = taken_len opening sp.0 l.1.after l.1.spaces l.0 l.1.parts l.1.here in
    let d = taken_len (number n) l.0 m.1.after m.1.spaces m.0 m.1.parts m.1.here in
    let e = taken_len comma m.0 c.1.after c.1.spaces c.0 c.1.parts c.1.here in
    gate_canon n ms post bytes c.0 inner (head_canon ms inner.tokens inner.spells inner.again n low high (λ apart. number_small n m.1.here.spelled_by m.1.here.spelled)) (omega (arith, a, b, d, e, out_of_len sp.1.here.spelled_by sp.1.here.spelled, ap length l.1.here.spelled, ap length c.1.here.spelled, number_short n m.1.here.spelled_by m.1.here.spelled, head_some_len n (count ms)))

last_canon : (t : Tree) (post : List Token) (bytes : List ℕ) → Canon t (closing ∷ post) bytes
    → CanonMembers (more t none) post bytes
last_canon t post bytes e =
    let r = e.spaced in
    let a = taken_len closing e.rest r.1.after r.1.spaces r.0 r.1.parts r.1.here in
    record {
      rest = r.0;
      spaced = r.2;
      tokens = e.tokens ++ closing ∷ [];
      spells = last_is e.spells;
      again = λ ts behind h.
          let base = e.again (closing ∷ ts) (41 ∷ behind) (put_token closing (41 ∷ []) ts behind refl tt h) in
          let x : text_of t ++ 41 ∷ behind ≡ texts_of (more t none) ++ behind = sym (ap (λ (y : List ℕ). y ++ behind) (append-nil (text_of t ++ 41 ∷ [])) ∙ append_assoc (text_of t) (41 ∷ []) behind) in
          subst (λ (y : List ℕ). Spaced ((e.tokens ++ closing ∷ []) ++ ts) y) x (subst (λ (y : List Token). Spaced y (text_of t ++ 41 ∷ behind)) (sym (append_assoc e.tokens (closing ∷ []) ts)) base);
      short =
          omega (arith, e.short, a, ap length r.1.here.spelled, ap length (append-nil (text_of t ++ 41 ∷ [])), length-append (text_of t) (41 ∷ []));
    }

separator_comma : {ms : Trees} {ts : List Token} → SpellsMembers ms ts → separator ms ≡ 44 ∷ []
separator_comma (last_is s) = refl
separator_comma (more_are s m) = refl

more_canon : (t : Tree) (ms : Trees) (us post : List Token) (bytes : List ℕ) → separator ms ≡ 44 ∷ []
    → Canon t (comma ∷ (us ++ post)) bytes
    → ((inside : List ℕ) → Spaced (us ++ post) inside → CanonMembers ms post inside)
    → CanonMembers (more t ms) post bytes
more_canon t ms us post bytes sep e members =
    let r = e.spaced in
    let o = members r.0 r.2 in
    let a = taken_len comma e.rest r.1.after r.1.spaces r.0 r.1.parts r.1.here in
    let all : texts_of (more t ms) ≡ (text_of t ++ 44 ∷ []) ++ texts_of ms = ap (λ (y : List ℕ). text_of t ++ y ++ texts_of ms) sep in
    record {
      rest = o.rest;
      spaced = o.spaced;
      tokens = e.tokens ++ comma ∷ o.tokens;
      spells = more_are e.spells o.spells;
      again = λ ts behind h.
          let base = e.again (comma ∷ (o.tokens ++ ts)) (44 ∷ (texts_of ms ++ behind)) (put_token comma (44 ∷ []) (o.tokens ++ ts) (texts_of ms ++ behind) refl tt (o.again ts behind h)) in
          let x : text_of t ++ 44 ∷ (texts_of ms ++ behind) ≡ texts_of (more t ms) ++ behind = sym (ap (λ (y : List ℕ). y ++ behind) all ∙ append_assoc (text_of t ++ 44 ∷ []) (texts_of ms) behind ∙ append_assoc (text_of t) (44 ∷ []) (texts_of ms ++ behind)) in
          subst (λ (y : List ℕ). Spaced ((e.tokens ++ comma ∷ o.tokens) ++ ts) y) x (subst (λ (y : List Token). Spaced y (text_of t ++ 44 ∷ (texts_of ms ++ behind))) (sym (append_assoc e.tokens (comma ∷ o.tokens) ts)) base);
      short =
          omega (arith, e.short, o.short, a, ap length r.1.here.spelled, ap length all, length-append (text_of t ++ 44 ∷ []) (texts_of ms), length-append (text_of t) (44 ∷ []));
    }

some_count : {ms : Trees} {ts : List Token} → SpellsMembers ms ts → 1 ≤ count ms
some_count (last_is s) = omega arith
some_count (more_are s m) = omega arith

mutual
  canon : {t : Tree} {ts : List Token} → Spells t ts → (post : List Token) (bytes : List ℕ)
      → Spaced (ts ++ post) bytes → Canon t post bytes
  canon (principal_is {org} {role}) post bytes sp = principal_canon org role post bytes sp
  canon (all_is {members} {ts} m) post bytes sp =
      all_canon members ts post bytes (some_count m) sp (λ inside h. canon_members m post inside h)
  canon (any_is {members} {ts} m) post bytes sp =
      any_canon members ts post bytes (some_count m) sp (λ inside h. canon_members m post inside h)
  canon (out_of_is {n} {members} {ts} low high m) post bytes sp =
      out_of_canon n members ts post bytes low high sp (λ inside h. canon_members m post inside h)

  canon_members : {ms : Trees} {ts : List Token} → SpellsMembers ms ts → (post : List Token) (bytes : List ℕ)
      → Spaced (ts ++ post) bytes → CanonMembers ms post bytes
  canon_members (last_is {t} {ts} s) post bytes sp =
      last_canon t post bytes (canon s (closing ∷ post) bytes (subst (λ (x : List Token). Spaced x bytes) (append_assoc ts (closing ∷ []) post) sp))
  canon_members (more_are {t} {members} {ts} {us} s m) post bytes sp =
      more_canon t members us post bytes (separator_comma m) (canon s (comma ∷ (us ++ post)) bytes (subst (λ (x : List Token). Spaced x bytes) (append_assoc ts (comma ∷ us) post) sp)) (λ inside h. canon_members m post inside h)

-- ---- policies

whole : (bytes : List ℕ) (t : Tree) → IsPolicy bytes t → Canon t [] bytes
whole bytes t p =
    canon p.spells [] bytes (subst (λ (x : List Token). Spaced x bytes) (sym (append-nil p.tokens)) p.spaced)

-- never longer than a text of the same policy
pub canonical_short : (bytes : List ℕ) (t : Tree) → IsPolicy bytes t → length (text_of t) ≤ length bytes
canonical_short bytes t p = omega (arith, (whole bytes t p).short)

-- a text of the same policy
pub canonical_policy : (bytes : List ℕ) (t : Tree) → IsPolicy bytes t → IsPolicy (text_of t) t
canonical_policy bytes t p =
    let c = whole bytes t p in
    let nothing : Spaced [] [] = record { spaces = []; after = []; blank = pass_of_each (λ b. b == 32) [] tt; parts = refl; here = (refl, refl) } in
    record {
      tokens = c.tokens;
      spaced =
          subst (λ (x : List ℕ). Spaced c.tokens x) (append-nil (text_of t)) (subst (λ (x : List Token). Spaced x (text_of t ++ [])) (append-nil c.tokens) (c.again [] [] nothing));
      spells = c.spells;
      short = omega (arith, canonical_short bytes t p, p.short);
      few = p.few;
      flat = p.flat;
    }
