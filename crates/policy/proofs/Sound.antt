-- What is read is spelled so, and a fault that is met is the rules' fault.
use Rattle.std.proofs.Common.{◌≡◌, ◌≢◌, ℕ, zero, suc, ◌+◌, ◌≤◌, ◌<◌, Bool, true, false, cond, List, [], ◌∷◌, ◌++◌, length, Result, Ok, Err, refl, sym, ap, ◌∙◌, subst, append_assoc, arith}
use Rattle.std.specs.Prelude.{nat_lt, nat_le, ◌&&◌}
use Rattle.std.proofs.lemmas.Bool.Decides.{nat_tests}
use Rattle.policy.specs.declared.tree.PolicyRole.{PolicyRole}
use Rattle.policy.specs.declared.token.Word.{Word}
use Rattle.policy.specs.declared.token.Word.TheVariants.{All, Any, OutOf}
use Rattle.policy.specs.Tree.{Tree, principal, gate, leaves, all_leaves}
use Rattle.policy.specs.View.{trees}
use Rattle.policy.specs.Token.{Token, opening, closing, comma, word, number, principal_token, no_principal, Spaced}
use Rattle.policy.specs.Lexing.{token_at}
use Rattle.policy.specs.Grammar.{Spells, principal_is, all_is, any_is, out_of_is, SpellsMembers, last_is, more_are, count, depth, most_depth}
use Rattle.policy.specs.Fault.{Fault, syntax_fault, threshold_fault, size_fault, first, Head, all_head, any_head, out_of_head, NoHead, no_opening, no_number, no_comma, Keeps, Fails, no_expression, no_role, too_many, too_deep, no_head, member_fails, no_threshold, FailsMembers, first_fails, no_separator, later_fails}
use Rattle.policy.specs.Reading.{◌>>=◌, Read, Reader, Asked, every, one, at_least, head_at, expected_opening, expected_comma, expected_number, expected_separator, opening_at, comma_at, threshold_at, separator_at, after_member, members_by, expression_by, first_token, gate_by, gate_at, closed}
use Rattle.policy.proofs.Spaces.{first_is, next_opening, next_closing, next_comma, next_word, next_number, next_principal}
use Rattle.policy.proofs.Complete.{some_leaf}

-- ---- what reading an expression came to

pub record ExpressionRead (g k : ℕ) (ts : List Token) (r : Read Tree) : Type 0 where
  pub pre : List Token
  pub post : List Token
  pub parts : ts ≡ pre ++ post
  pub spells : Spells r.value pre
  pub spaced : Spaced post r.rest
  pub principals : r.principals ≡ k + leaves r.value
  pub few : r.principals ≤ 256
  pub flat : g + depth r.value ≤ 32

abbrev pub ExpressionOutcome : ℕ → ℕ → List Token → Result (Read Tree) Fault → Type 0
ExpressionOutcome g k ts (Ok r) = ExpressionRead g k ts r
ExpressionOutcome g k ts (Err f) = Fails g k ts f

record MembersRead (g k : ℕ) (ts : List Token) (r : Read (List Tree)) : Type 0 where
  pub pre : List Token
  pub post : List Token
  pub parts : ts ≡ pre ++ post
  pub spells : SpellsMembers (trees r.value) pre
  pub spaced : Spaced post r.rest
  pub principals : r.principals ≡ k + all_leaves (trees r.value)
  pub few : r.principals ≤ 256
  pub flat : g + most_depth (trees r.value) ≤ 32

abbrev MembersOutcome : ℕ → ℕ → List Token → Result (Read (List Tree)) Fault → Type 0
MembersOutcome g k ts (Ok r) = MembersRead g k ts r
MembersOutcome g k ts (Err f) = FailsMembers g k ts f

-- ---- one token

OpeningOutcome : List Token → Result (List ℕ) Fault → Type 0
OpeningOutcome ts (Ok rest) = (us : List Token) × (ts ≡ opening ∷ us) × Spaced us rest
OpeningOutcome ts (Err f) = (f ≡ syntax_fault) × (first ts ≢ opening)

opening_case : (ts : List Token) (bytes : List ℕ) → Spaced ts bytes
    → OpeningOutcome ts (expected_opening (first ts) (token_at bytes).1)
unfolding OpeningOutcome
opening_case [] bytes sp = (refl, λ e. absurd cc)
opening_case (opening ∷ us) bytes sp =
    let f = next_opening us bytes sp in (us, refl, subst (λ (x : Token × List ℕ). Spaced us x.1) (sym f.is) f.spaced)
opening_case (t ∷ us) bytes sp = (refl, λ e. absurd cc)

opening_outcome : (ts : List Token) (bytes : List ℕ) → Spaced ts bytes → OpeningOutcome ts (opening_at bytes)
unfolding opening_at
opening_outcome ts bytes sp =
    subst (λ (t : Token). OpeningOutcome ts (expected_opening t (token_at bytes).1)) (sym (first_is ts bytes sp)) (opening_case ts bytes sp)

CommaOutcome : List Token → Result (List ℕ) Fault → Type 0
CommaOutcome ts (Ok rest) = (us : List Token) × (ts ≡ comma ∷ us) × Spaced us rest
CommaOutcome ts (Err f) = (f ≡ syntax_fault) × (first ts ≢ comma)

comma_case : (ts : List Token) (bytes : List ℕ) → Spaced ts bytes
    → CommaOutcome ts (expected_comma (first ts) (token_at bytes).1)
unfolding CommaOutcome
comma_case [] bytes sp = (refl, λ e. absurd cc)
comma_case (comma ∷ us) bytes sp =
    let f = next_comma us bytes sp in (us, refl, subst (λ (x : Token × List ℕ). Spaced us x.1) (sym f.is) f.spaced)
comma_case (t ∷ us) bytes sp = (refl, λ e. absurd cc)

comma_outcome : (ts : List Token) (bytes : List ℕ) → Spaced ts bytes → CommaOutcome ts (comma_at bytes)
unfolding comma_at
comma_outcome ts bytes sp =
    subst (λ (t : Token). CommaOutcome ts (expected_comma t (token_at bytes).1)) (sym (first_is ts bytes sp)) (comma_case ts bytes sp)

NumberOutcome : List Token → Result (ℕ × List ℕ) Fault → Type 0
NumberOutcome ts (Ok x) = (us : List Token) × (ts ≡ number x.0 ∷ us) × Spaced us x.1
NumberOutcome ts (Err f) = (f ≡ syntax_fault) × ((n : ℕ) → first ts ≢ number n)

number_case : (ts : List Token) (bytes : List ℕ) → Spaced ts bytes
    → NumberOutcome ts (expected_number (first ts) (token_at bytes).1)
unfolding NumberOutcome
number_case [] bytes sp = (refl, λ n e. absurd cc)
number_case (number n ∷ us) bytes sp =
    let f = next_number n us bytes sp in (us, refl, subst (λ (x : Token × List ℕ). Spaced us x.1) (sym f.is) f.spaced)
number_case (t ∷ us) bytes sp = (refl, λ n e. absurd cc)

number_outcome : (ts : List Token) (bytes : List ℕ) → Spaced ts bytes → NumberOutcome ts (threshold_at bytes)
unfolding threshold_at
number_outcome ts bytes sp =
    subst (λ (t : Token). NumberOutcome ts (expected_number t (token_at bytes).1)) (sym (first_is ts bytes sp)) (number_case ts bytes sp)

SeparatorOutcome : List Token → Result (Bool × List ℕ) Fault → Type 0
SeparatorOutcome ts (Ok x) = (us : List Token) × (ts ≡ cond x.0 comma closing ∷ us) × Spaced us x.1
SeparatorOutcome ts (Err f) = (f ≡ syntax_fault) × (first ts ≢ comma) × (first ts ≢ closing)

separator_case : (ts : List Token) (bytes : List ℕ) → Spaced ts bytes
    → SeparatorOutcome ts (expected_separator (first ts) (token_at bytes).1)
unfolding SeparatorOutcome
separator_case [] bytes sp = (refl, λ e. absurd cc, λ e. absurd cc)
separator_case (comma ∷ us) bytes sp =
    let f = next_comma us bytes sp in (us, refl, subst (λ (x : Token × List ℕ). Spaced us x.1) (sym f.is) f.spaced)
separator_case (closing ∷ us) bytes sp =
    let f = next_closing us bytes sp in (us, refl, subst (λ (x : Token × List ℕ). Spaced us x.1) (sym f.is) f.spaced)
separator_case (t ∷ us) bytes sp = (refl, λ e. absurd cc, λ e. absurd cc)

separator_outcome : (ts : List Token) (bytes : List ℕ) → Spaced ts bytes → SeparatorOutcome ts (separator_at bytes)
unfolding separator_at
separator_outcome ts bytes sp =
    subst (λ (t : Token). SeparatorOutcome ts (expected_separator t (token_at bytes).1)) (sym (first_is ts bytes sp)) (separator_case ts bytes sp)

-- ---- an expression, by what reads a gate

lt_cases : (k : ℕ) → (b : Bool) → nat_lt k 256 ≡ b → cond b (k < 256) (256 ≤ k)
lt_cases k true e = grind (arith, nat_tests)
lt_cases k false e = grind (arith, nat_tests)

principal_case : (g k : ℕ) (org : List ℕ) (role : PolicyRole) (ts : List Token) (rest : List ℕ) (b : Bool)
    → nat_lt k 256 ≡ b → g ≤ 32 → Spaced ts rest
    → ExpressionOutcome g k (principal_token org role ∷ ts) (cond b (Ok (record { value = principal org role; principals = k + 1; rest = rest })) (Err size_fault))
principal_case g k org role ts rest true e shallow sp =
    record {
      pre = principal_token org role ∷ [];
      post = ts;
      parts = refl;
      spells = principal_is;
      spaced = sp;
      principals = refl;
      few = let h : k < 256 = lt_cases k true e in omega arith;
      flat = omega arith;
    }
principal_case g k org role ts rest false e shallow sp = too_many (lt_cases k false e)

module _ (gates : Word → Reader Tree) (g k : ℕ) (shallow : g ≤ 32) (inner : (w : Word) (ts : List Token) (rest : List ℕ) → Spaced ts rest → ExpressionOutcome g k (word w ∷ ts) (gates w k rest)) where
  expression_case : (ts : List Token) (bytes : List ℕ) → Spaced ts bytes
      → ExpressionOutcome g k ts (first_token gates k (first ts) (token_at bytes).1)
  expression_case [] bytes sp = no_expression tt
  expression_case (word w ∷ ts) bytes sp =
      let f = next_word w ts bytes sp in subst (λ (x : Token × List ℕ). ExpressionOutcome g k (word w ∷ ts) (gates w k x.1)) (sym f.is) (inner w ts f.rest f.spaced)
  expression_case (principal_token org role ∷ ts) bytes sp =
      let f = next_principal org role ts bytes sp in
      subst (λ (x : Token × List ℕ). ExpressionOutcome g k (principal_token org role ∷ ts) (first_token gates k (principal_token org role) x.1)) (sym f.is) (principal_case g k org role ts f.rest (nat_lt k 256) refl shallow f.spaced)
  expression_case (no_principal ∷ ts) bytes sp = no_role
  expression_case (t ∷ ts) bytes sp = no_expression tt

  expression_outcome : (ts : List Token) (bytes : List ℕ) → Spaced ts bytes
      → ExpressionOutcome g k ts (expression_by gates k bytes)
  unfolding expression_by
  expression_outcome ts bytes sp =
      subst (λ (t : Token). ExpressionOutcome g k ts (first_token gates k t (token_at bytes).1)) (sym (first_is ts bytes sp)) (expression_case ts bytes sp)

-- ---- members

module _ (g k : ℕ) (ts : List Token) (one_read : Read Tree) (r : ExpressionRead g k ts one_read) where
  keeps : Keeps g k one_read.value
  keeps = record { few = omega (arith, r.few, r.principals); flat = r.flat }

  -- after the last member
  members_end : (us : List Token) (rest : List ℕ) → r.post ≡ closing ∷ us → Spaced us rest
      → MembersRead g k ts (record { value = one_read.value ∷ []; principals = one_read.principals; rest = rest })
  members_end us rest e sp =
      record {
        pre = r.pre ++ closing ∷ [];
        post = us;
        parts = r.parts ∙ ap (λ (x : List Token). r.pre ++ x) e ∙ sym (append_assoc r.pre (closing ∷ []) us);
        spells = last_is r.spells;
        spaced = sp;
        principals = omega (arith, r.principals);
        few = r.few;
        flat = omega (arith, r.flat);
      }

  -- before another one
  members_more : (us : List Token) → r.post ≡ comma ∷ us → (o : Result (Read (List Tree)) Fault)
      → MembersOutcome g one_read.principals us o
      → MembersOutcome g k ts (o >>= λ ms. Ok (record ms { value = one_read.value ∷ ms.value }))
  members_more us e (Ok ms) m =
      record {
        pre = r.pre ++ comma ∷ m.pre;
        post = m.post;
        parts =
            r.parts ∙ ap (λ (x : List Token). r.pre ++ x) (e ∙ ap (λ (x : List Token). comma ∷ x) m.parts) ∙ sym (append_assoc r.pre (comma ∷ m.pre) m.post);
        spells = more_are r.spells m.spells;
        spaced = m.spaced;
        principals = omega (arith, r.principals, m.principals);
        few = m.few;
        flat = omega (arith, r.flat, m.flat);
      }
  members_more us e (Err f) m =
      let here : FailsMembers g (k + leaves one_read.value) us f = subst (λ (n : ℕ). FailsMembers g n us f) r.principals m in
      let whole : ts ≡ r.pre ++ comma ∷ us = r.parts ∙ ap (λ (x : List Token). r.pre ++ x) e in
      subst (λ (x : List Token). FailsMembers g k x f) (sym whole) (later_fails r.spells keeps here)

  members_unclosed : first r.post ≢ comma → first r.post ≢ closing → FailsMembers g k ts syntax_fault
  members_unclosed c d =
      subst (λ (x : List Token). FailsMembers g k x syntax_fault) (sym r.parts) (no_separator r.post r.spells keeps c d)

  separator_found : (others : Reader (List Tree))
      → ((us : List Token) (rest : List ℕ) → Spaced us rest → MembersOutcome g one_read.principals us (others one_read.principals rest))
      → (b : Bool) (rest : List ℕ) (us : List Token) → r.post ≡ cond b comma closing ∷ us → Spaced us rest
      → MembersOutcome g k ts (after_member others one_read b rest)
  separator_found others reads true rest us e sp =
      members_more us e (others one_read.principals rest) (reads us rest sp)
  separator_found others reads false rest us e sp = members_end us rest e sp

  separator_step : (others : Reader (List Tree))
      → ((us : List Token) (rest : List ℕ) → Spaced us rest → MembersOutcome g one_read.principals us (others one_read.principals rest))
      → (s : Result (Bool × List ℕ) Fault) → SeparatorOutcome r.post s
      → MembersOutcome g k ts (s >>= λ next. after_member others one_read next.0 next.1)
  unfolding SeparatorOutcome
  separator_step others reads (Ok x) o = separator_found others reads x.0 x.1 o.0 o.1 o.2
  separator_step others reads (Err f) o =
      subst (λ (x : Fault). FailsMembers g k ts x) (sym o.0) (members_unclosed o.1 o.2)

module _ (ex : Reader Tree) (g : ℕ) (outcome : (k : ℕ) (ts : List Token) (bytes : List ℕ) → k ≤ 256 → Spaced ts bytes → ExpressionOutcome g k ts (ex k bytes)) where
  after_first : (n k : ℕ) (ts : List Token) (o : Result (Read Tree) Fault) → 257 ≤ suc n + k
      → ExpressionOutcome g k ts o
      → ((k' : ℕ) (us : List Token) (rest : List ℕ) → 257 ≤ n + k' → k' ≤ 256 → Spaced us rest → MembersOutcome g k' us (members_by ex n k' rest))
      → MembersOutcome g k ts (o >>= λ one_read. separator_at one_read.rest >>= λ next. after_member (members_by ex n) one_read next.0 next.1)
  after_first n k ts (Ok one_read) room r others =
      separator_step g k ts one_read r (members_by ex n) (λ us rest sp. others one_read.principals us rest (omega (arith, r.principals, some_leaf r.spells)) r.few sp) (separator_at one_read.rest) (separator_outcome r.post one_read.rest r.spaced)
  after_first n k ts (Err f) room r others = first_fails r

  members_outcome : (n k : ℕ) (ts : List Token) (bytes : List ℕ) → 257 ≤ n + k → k ≤ 256 → Spaced ts bytes
      → MembersOutcome g k ts (members_by ex n k bytes)
  unfolding members_by
  members_outcome zero k ts bytes room few sp = absurd (omega arith)
  members_outcome (suc n) k ts bytes room few sp =
      after_first n k ts (ex k bytes) room (outcome k ts bytes few sp) (λ k' us rest. members_outcome n k' us rest)

-- ---- gates

-- the head of a gate that asks for this
data HeadOf : Asked → List Token → Type 0 where
  of_all : HeadOf every (word All ∷ opening ∷ [])
  of_any : HeadOf one (word Any ∷ opening ∷ [])
  of_out_of : {n : ℕ} → HeadOf (at_least n) (word OutOf ∷ opening ∷ number n ∷ comma ∷ [])

head_of : {a : Asked} {ts : List Token} → HeadOf a ts → Head ts
head_of of_all = all_head
head_of of_any = any_head
head_of of_out_of = out_of_head

HeadOutcome : Word → List Token → Result (Asked × List ℕ) Fault → Type 0
HeadOutcome w ts (Ok x) = (pre post : List Token) × (word w ∷ ts ≡ pre ++ post) × HeadOf x.0 pre × Spaced post x.1
HeadOutcome w ts (Err f) = (f ≡ syntax_fault) × NoHead (word w ∷ ts)

all_outcome : (ts : List Token) (o : Result (List ℕ) Fault) → OpeningOutcome ts o
    → HeadOutcome All ts (o >>= λ rest. Ok (every, rest))
unfolding OpeningOutcome HeadOutcome
all_outcome ts (Ok rest) o = (word All ∷ opening ∷ [], o.0, ap (λ (x : List Token). word All ∷ x) o.1, of_all, o.2)
all_outcome ts (Err f) o = (o.0, no_opening o.1)

any_outcome : (ts : List Token) (o : Result (List ℕ) Fault) → OpeningOutcome ts o
    → HeadOutcome Any ts (o >>= λ rest. Ok (one, rest))
unfolding OpeningOutcome HeadOutcome
any_outcome ts (Ok rest) o = (word Any ∷ opening ∷ [], o.0, ap (λ (x : List Token). word Any ∷ x) o.1, of_any, o.2)
any_outcome ts (Err f) o = (o.0, no_opening o.1)

comma_step : (n : ℕ) (ts us : List Token) (o : Result (List ℕ) Fault) → ts ≡ opening ∷ number n ∷ us
    → CommaOutcome us o → HeadOutcome OutOf ts (o >>= λ rest. Ok (at_least n, rest))
unfolding CommaOutcome HeadOutcome
comma_step n ts us (Ok rest) e o =
    (word OutOf ∷ opening ∷ number n ∷ comma ∷ [], o.0, ap (λ (x : List Token). word OutOf ∷ x) (e ∙ ap (λ (x : List Token). opening ∷ number n ∷ x) o.1), of_out_of, o.2)
comma_step n ts us (Err f) e o = (o.0, subst (λ (x : List Token). NoHead (word OutOf ∷ x)) (sym e) (no_comma o.1))

number_step : (ts us : List Token) (o : Result (ℕ × List ℕ) Fault) → ts ≡ opening ∷ us → NumberOutcome us o
    → HeadOutcome OutOf ts (o >>= λ n. comma_at n.1 >>= λ rest. Ok (at_least n.0, rest))
unfolding NumberOutcome
number_step ts us (Ok x) e o =
    comma_step x.0 ts o.0 (comma_at x.1) (e ∙ ap (λ (y : List Token). opening ∷ y) o.1) (comma_outcome o.0 x.1 o.2)
number_step ts us (Err f) e o =
    unfold HeadOutcome in (o.0, subst (λ (x : List Token). NoHead (word OutOf ∷ x)) (sym e) (no_number o.1))

out_of_outcome : (ts : List Token) (o : Result (List ℕ) Fault) → OpeningOutcome ts o
    → HeadOutcome OutOf ts (o >>= λ inside. threshold_at inside >>= λ n. comma_at n.1 >>= λ rest. Ok (at_least n.0, rest))
unfolding OpeningOutcome
out_of_outcome ts (Ok inside) o = number_step ts o.0 (threshold_at inside) o.1 (number_outcome o.0 inside o.2)
out_of_outcome ts (Err f) o = unfold HeadOutcome in (o.0, no_opening o.1)

head_outcome : (w : Word) (ts : List Token) (rest : List ℕ) → Spaced ts rest → HeadOutcome w ts (head_at w rest)
unfolding head_at
head_outcome All ts rest sp = all_outcome ts (opening_at rest) (opening_outcome ts rest sp)
head_outcome Any ts rest sp = any_outcome ts (opening_at rest) (opening_outcome ts rest sp)
head_outcome OutOf ts rest sp = out_of_outcome ts (opening_at rest) (opening_outcome ts rest sp)

length_trees : (ts : List Tree) → count (trees ts) ≡ length ts
length_trees [] = refl
length_trees (t ∷ ts) = ap suc (length_trees ts)

-- a gate's members are read: the gate, or its threshold's fault
module _ (g k : ℕ) (deep : g < 32) (whole pre inside : List Token) (parts : whole ≡ pre ++ inside) (ms : Read (List Tree)) (m : MembersRead (suc g) k inside ms) where
  gate_parts : whole ≡ (pre ++ m.pre) ++ m.post
  gate_parts = parts ∙ ap (λ (x : List Token). pre ++ x) m.parts ∙ sym (append_assoc pre m.pre m.post)

  gate_read : (n : ℕ) → Spells (gate n (trees ms.value)) (pre ++ m.pre)
      → ExpressionRead g k whole (record { value = gate n (trees ms.value); principals = ms.principals; rest = ms.rest })
  gate_read n s =
      record {
        pre = pre ++ m.pre;
        post = m.post;
        parts = gate_parts;
        spells = s;
        spaced = m.spaced;
        principals = m.principals;
        few = m.few;
        flat = omega (arith, m.flat);
      }

threshold_case : (g k : ℕ) (deep : g < 32) (n : ℕ) (inside : List Token) (ms : Read (List Tree)) (m : MembersRead (suc g) k inside ms) (a b : Bool)
    → nat_le 1 n ≡ a → nat_le n (length ms.value) ≡ b
    → ExpressionOutcome g k (word OutOf ∷ opening ∷ number n ∷ comma ∷ inside) (cond (a && b) (Ok (gate n (trees ms.value))) (Err threshold_fault) >>= λ t. Ok (record { value = t; principals = ms.principals; rest = ms.rest }))
threshold_case g k deep n inside ms m true true low high =
    let p : 1 ≤ n = grind (arith, nat_tests) in
    let q : n ≤ count (trees ms.value) = grind (arith, nat_tests, length_trees ms.value) in
    gate_read g k deep (word OutOf ∷ opening ∷ number n ∷ comma ∷ inside) (word OutOf ∷ opening ∷ number n ∷ comma ∷ []) inside refl ms m n (out_of_is p q m.spells)
threshold_case g k deep n inside ms m true false low high =
    let p : (1 ≤ n → n ≤ count (trees ms.value) → ⊥) = grind (arith, nat_tests, length_trees ms.value) in
    subst (λ (x : List Token). Fails g k (word OutOf ∷ opening ∷ number n ∷ comma ∷ x) threshold_fault) (sym m.parts) (no_threshold m.post deep m.spells (omega (arith, m.few, m.principals)) m.flat p)
threshold_case g k deep n inside ms m false b low high =
    let p : (1 ≤ n → n ≤ count (trees ms.value) → ⊥) = grind (arith, nat_tests) in
    subst (λ (x : List Token). Fails g k (word OutOf ∷ opening ∷ number n ∷ comma ∷ x) threshold_fault) (sym m.parts) (no_threshold m.post deep m.spells (omega (arith, m.few, m.principals)) m.flat p)

closed_outcome : (g k : ℕ) (deep : g < 32) {a : Asked} {pre : List Token} (h : HeadOf a pre) (inside : List Token) (ms : Read (List Tree)) (m : MembersRead (suc g) k inside ms)
    → ExpressionOutcome g k (pre ++ inside) (closed a ms)
closed_outcome g k deep of_all inside ms m =
    let s : Spells (gate (length ms.value) (trees ms.value)) (word All ∷ opening ∷ m.pre) = subst (λ (n : ℕ). Spells (gate n (trees ms.value)) (word All ∷ opening ∷ m.pre)) (length_trees ms.value) (all_is m.spells) in
    gate_read g k deep (word All ∷ opening ∷ inside) (word All ∷ opening ∷ []) inside refl ms m (length ms.value) s
closed_outcome g k deep of_any inside ms m =
    gate_read g k deep (word Any ∷ opening ∷ inside) (word Any ∷ opening ∷ []) inside refl ms m 1 (any_is m.spells)
closed_outcome g k deep (of_out_of {n}) inside ms m =
    threshold_case g k deep n inside ms m (nat_le 1 n) (nat_le n (length ms.value)) refl refl

members_step : (g k : ℕ) (deep : g < 32) (a : Asked) (whole pre inside : List Token) → whole ≡ pre ++ inside
    → HeadOf a pre → (o : Result (Read (List Tree)) Fault) → MembersOutcome (suc g) k inside o
    → ExpressionOutcome g k whole (o >>= λ members. closed a members)
members_step g k deep a whole pre inside e h (Ok ms) m =
    subst (λ (x : List Token). ExpressionOutcome g k x (closed a ms)) (sym e) (closed_outcome g k deep h inside ms m)
members_step g k deep a whole pre inside e h (Err f) m =
    subst (λ (x : List Token). Fails g k x f) (sym e) (member_fails deep (head_of h) m)

head_step : (gates : Word → Reader Tree) (g k : ℕ) (deep : g < 32) (few : k ≤ 256) (outcome : (k : ℕ) (ts : List Token) (bytes : List ℕ) → k ≤ 256 → Spaced ts bytes → ExpressionOutcome (suc g) k ts (expression_by gates k bytes)) (w : Word) (ts : List Token) (o : Result (Asked × List ℕ) Fault)
    → HeadOutcome w ts o
    → ExpressionOutcome g k (word w ∷ ts) (o >>= λ head. members_by (expression_by gates) 257 k head.1 >>= λ members. closed head.0 members)
unfolding HeadOutcome
head_step gates g k deep few outcome w ts (Ok x) o =
    members_step g k deep x.0 (word w ∷ ts) o.0 o.1 o.2 o.3 (members_by (expression_by gates) 257 k x.1) (members_outcome (expression_by gates) (suc g) outcome 257 k o.1 x.1 (omega arith) few o.4)
head_step gates g k deep few outcome w ts (Err f) o =
    subst (λ (x : Fault). Fails g k (word w ∷ ts) x) (sym o.0) (no_head deep o.1)

pub gate_outcome : (d g : ℕ) → d + g ≡ 32 → (k : ℕ) → k ≤ 256 → (w : Word) (ts : List Token) (rest : List ℕ)
    → Spaced ts rest → ExpressionOutcome g k (word w ∷ ts) (gate_at d w k rest)
unfolding gate_at gate_by
gate_outcome zero g e k few w ts rest sp = too_deep (omega arith)
gate_outcome (suc d) g e k few w ts rest sp =
    head_step (gate_at d) g k (omega arith) few (λ k' us bytes few' sp'. expression_outcome (gate_at d) (suc g) k' (omega arith) (λ v vs rest' sp2. gate_outcome d (suc g) (omega arith) k' few' v vs rest' sp2) us bytes sp') w ts (head_at w rest) (head_outcome w ts rest sp)

pub whole_outcome : (ts : List Token) (bytes : List ℕ) → Spaced ts bytes
    → ExpressionOutcome 0 0 ts (expression_by (gate_at 32) 0 bytes)
whole_outcome ts bytes sp =
    expression_outcome (gate_at 32) 0 0 (omega arith) (λ w us rest s. gate_outcome 32 0 refl 0 (omega arith) w us rest s) ts bytes sp
