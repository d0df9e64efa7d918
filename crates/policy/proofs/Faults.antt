-- A fault of the rules is the one that is met.
use Rattle.std.proofs.Common.{◌≡◌, ◌≢◌, ℕ, ◌-◌, ◌+◌, ◌≤◌, Bool, true, false, cond, List, ◌∷◌, ◌++◌, length, Result, Ok, Err, refl, sym, ap, ◌∙◌, subst, arith}
use Rattle.std.specs.Prelude.{nat_lt, nat_le, ◌&&◌}
use Rattle.std.proofs.lemmas.Bool.Decides.{nat_tests}
use Rattle.policy.specs.declared.tree.PolicyRole.{PolicyRole}
use Rattle.policy.specs.declared.token.Word.{Word}
use Rattle.policy.specs.declared.token.Word.TheVariants.{All, Any, OutOf}
use Rattle.policy.specs.Tree.{Tree, Trees, gate, leaves, all_leaves}
use Rattle.policy.specs.View.{trees}
use Rattle.policy.specs.Token.{Token, opening, closing, comma, word, number, principal_token, no_principal, Spaced}
use Rattle.policy.specs.Lexing.{token_at}
use Rattle.policy.specs.Grammar.{SpellsMembers, count, most_depth}
use Rattle.policy.specs.Fault.{Fault, syntax_fault, role_fault, threshold_fault, depth_fault, size_fault, first, BeginsNone, Head, all_head, any_head, out_of_head, NoHead, no_opening, no_number, no_comma, Fails, no_expression, no_role, too_many, too_deep, no_head, member_fails, no_threshold, FailsMembers, first_fails, no_separator, later_fails}
use Rattle.policy.specs.Reading.{◌>>=◌, Reader, Asked, every, one, at_least, head_at, expected_opening, expected_comma, expected_number, expected_separator, opening_at, comma_at, threshold_at, separator_at, members_by, expression_by, first_token, gate_by, gate_at, made}
use Rattle.policy.proofs.Spaces.{first_is, next_opening, next_comma, next_word, next_number, next_principal, next_no_principal}
use Rattle.policy.proofs.Loop.{bind_is, gate_none, gate_some, gate_is}
use Rattle.policy.proofs.Complete.{Reads, list, length_list, some_leaf, some_leaves, expression_is, opening_is, threshold_is, separator_comma, head_all, head_any, head_out_of, members_step, expression_complete, members_complete}

pub bind_fault : {A B : Type 0} (r : Result A Fault) (f : Fault) (h : A → Result B Fault) → r ≡ Err f
    → (r >>= h) ≡ Err f
bind_fault r f h e = ap (λ y. y >>= h) e

-- ---- one token

no_opening_at : (t : Token) (rest : List ℕ) → t ≢ opening → expected_opening t rest ≡ Err syntax_fault
no_opening_at opening rest h = absurd (h refl)
no_opening_at t rest h = refl

opening_fault : (ts : List Token) (bytes : List ℕ) → Spaced ts bytes → first ts ≢ opening
    → opening_at bytes ≡ Err syntax_fault
unfolding opening_at
opening_fault ts bytes sp h =
    ap (λ (t : Token). expected_opening t (token_at bytes).1) (first_is ts bytes sp) ∙ no_opening_at (first ts) (token_at bytes).1 h

no_comma_at : (t : Token) (rest : List ℕ) → t ≢ comma → expected_comma t rest ≡ Err syntax_fault
no_comma_at comma rest h = absurd (h refl)
no_comma_at t rest h = refl

comma_fault : (ts : List Token) (bytes : List ℕ) → Spaced ts bytes → first ts ≢ comma
    → comma_at bytes ≡ Err syntax_fault
unfolding comma_at
comma_fault ts bytes sp h =
    ap (λ (t : Token). expected_comma t (token_at bytes).1) (first_is ts bytes sp) ∙ no_comma_at (first ts) (token_at bytes).1 h

no_number_at : (t : Token) (rest : List ℕ) → ((n : ℕ) → t ≢ number n) → expected_number t rest ≡ Err syntax_fault
no_number_at (number n) rest h = absurd (h n refl)
no_number_at t rest h = refl

number_fault : (ts : List Token) (bytes : List ℕ) → Spaced ts bytes → ((n : ℕ) → first ts ≢ number n)
    → threshold_at bytes ≡ Err syntax_fault
unfolding threshold_at
number_fault ts bytes sp h =
    ap (λ (t : Token). expected_number t (token_at bytes).1) (first_is ts bytes sp) ∙ no_number_at (first ts) (token_at bytes).1 h

no_separator_at : (t : Token) (rest : List ℕ) → t ≢ comma → t ≢ closing → expected_separator t rest ≡ Err syntax_fault
no_separator_at comma rest h g = absurd (h refl)
no_separator_at closing rest h g = absurd (g refl)
no_separator_at t rest h g = refl

separator_fault : (ts : List Token) (bytes : List ℕ) → Spaced ts bytes → first ts ≢ comma → first ts ≢ closing
    → separator_at bytes ≡ Err syntax_fault
unfolding separator_at
separator_fault ts bytes sp h g =
    ap (λ (t : Token). expected_separator t (token_at bytes).1) (first_is ts bytes sp) ∙ no_separator_at (first ts) (token_at bytes).1 h g

nothing_begins : (gates : Word → Reader Tree) (k : ℕ) (t : Token) (rest : List ℕ) → BeginsNone t
    → first_token gates k t rest ≡ Err syntax_fault
nothing_begins gates k (word w) rest h = absurd h
nothing_begins gates k (principal_token org role) rest h = absurd h
nothing_begins gates k no_principal rest h = absurd h
nothing_begins gates k t rest h = refl

expression_none : (gates : Word → Reader Tree) (k : ℕ) (ts : List Token) (bytes : List ℕ) → Spaced ts bytes
    → BeginsNone (first ts) → expression_by gates k bytes ≡ Err syntax_fault
unfolding expression_by
expression_none gates k ts bytes sp h =
    ap (λ (t : Token). first_token gates k t (token_at bytes).1) (first_is ts bytes sp) ∙ nothing_begins gates k (first ts) (token_at bytes).1 h

principal_fault : (gates : Word → Reader Tree) (k : ℕ) (org : List ℕ) (role : PolicyRole) (ts : List Token) (bytes : List ℕ)
    → Spaced (principal_token org role ∷ ts) bytes → 256 ≤ k → expression_by gates k bytes ≡ Err size_fault
principal_fault gates k org role ts bytes sp many =
    let f = next_principal org role ts bytes sp in
    let full : nat_lt k 256 ≡ false = grind (arith, nat_tests) in
    expression_is gates k bytes f.rest (principal_token org role) f.is ∙ rw full refl

no_principal_fault : (gates : Word → Reader Tree) (k : ℕ) (ts : List Token) (bytes : List ℕ)
    → Spaced (no_principal ∷ ts) bytes → expression_by gates k bytes ≡ Err role_fault
no_principal_fault gates k ts bytes sp =
    let f = next_no_principal ts bytes sp in expression_is gates k bytes f.rest no_principal f.is

deep_fault : (d k : ℕ) (w : Word) (ts : List Token) (bytes : List ℕ) → d ≡ 0 → Spaced (word w ∷ ts) bytes
    → expression_by (gate_at d) k bytes ≡ Err depth_fault
deep_fault d k w ts bytes e sp =
    let f = next_word w ts bytes sp in expression_is (gate_at d) k bytes f.rest (word w) f.is ∙ gate_none d w k f.rest e

-- ---- the head of a gate

head_opening_fault : (w : Word) (bytes : List ℕ) → opening_at bytes ≡ Err syntax_fault
    → head_at w bytes ≡ Err syntax_fault
unfolding head_at
head_opening_fault All bytes e = bind_fault (opening_at bytes) syntax_fault _ e
head_opening_fault Any bytes e = bind_fault (opening_at bytes) syntax_fault _ e
head_opening_fault OutOf bytes e = bind_fault (opening_at bytes) syntax_fault _ e

head_number_fault : (bytes a : List ℕ) → token_at bytes ≡ (opening, a) → threshold_at a ≡ Err syntax_fault
    → head_at OutOf bytes ≡ Err syntax_fault
unfolding head_at
head_number_fault bytes a l e =
    bind_is (opening_at bytes) a _ (opening_is bytes a l) ∙ bind_fault (threshold_at a) syntax_fault _ e

head_comma_fault : (n : ℕ) (bytes a b : List ℕ) → token_at bytes ≡ (opening, a) → token_at a ≡ (number n, b)
    → comma_at b ≡ Err syntax_fault → head_at OutOf bytes ≡ Err syntax_fault
unfolding head_at
head_comma_fault n bytes a b l m e =
    bind_is (opening_at bytes) a _ (opening_is bytes a l) ∙ bind_is (threshold_at a) (n, b) _ (threshold_is n a b m) ∙ bind_fault (comma_at b) syntax_fault _ e

gate_head_fault : (d k : ℕ) (w : Word) (bytes rest : List ℕ) → 1 ≤ d → token_at bytes ≡ (word w, rest)
    → head_at w rest ≡ Err syntax_fault → expression_by (gate_at d) k bytes ≡ Err syntax_fault
unfolding gate_by
gate_head_fault d k w bytes rest pos t e =
    expression_is (gate_at d) k bytes rest (word w) t ∙ gate_some d (d - 1) w k rest (omega arith) ∙ bind_fault (head_at w rest) syntax_fault _ e

no_head_fault : {ts : List Token} → NoHead ts → (d k : ℕ) (bytes : List ℕ) → 1 ≤ d → Spaced ts bytes
    → expression_by (gate_at d) k bytes ≡ Err syntax_fault
no_head_fault (no_opening {w} {ts} h) d k bytes pos sp =
    let f = next_word w ts bytes sp in
    gate_head_fault d k w bytes f.rest pos f.is (head_opening_fault w f.rest (opening_fault ts f.rest f.spaced h))
no_head_fault (no_number {ts} h) d k bytes pos sp =
    let f = next_word OutOf (opening ∷ ts) bytes sp in
    let l = next_opening ts f.rest f.spaced in
    gate_head_fault d k OutOf bytes f.rest pos f.is (head_number_fault f.rest l.rest l.is (number_fault ts l.rest l.spaced h))
no_head_fault (no_comma {n} {ts} h) d k bytes pos sp =
    let f = next_word OutOf (opening ∷ number n ∷ ts) bytes sp in
    let l = next_opening (number n ∷ ts) f.rest f.spaced in
    let m = next_number n ts l.rest l.spaced in
    gate_head_fault d k OutOf bytes f.rest pos f.is (head_comma_fault n f.rest l.rest m.rest l.is m.is (comma_fault ts m.rest m.spaced h))

-- a gate whose members fail
gate_members_fault : (d k : ℕ) (w : Word) (a : Asked) (f : Fault) (bytes rest inside : List ℕ) → 1 ≤ d
    → token_at bytes ≡ (word w, rest) → head_at w rest ≡ Ok (a, inside)
    → members_by (expression_by (gate_at (d - 1))) 257 k inside ≡ Err f → expression_by (gate_at d) k bytes ≡ Err f
gate_members_fault d k w a f bytes rest inside pos t h e =
    expression_is (gate_at d) k bytes rest (word w) t ∙ gate_is d (d - 1) (omega arith) w k k refl rest a inside h ∙ bind_fault (members_by (expression_by (gate_at (d - 1))) 257 k inside) f _ e

member_fault : {head : List Token} → Head head → (d k : ℕ) (ts : List Token) (f : Fault) (bytes : List ℕ) → 1 ≤ d
    → Spaced (head ++ ts) bytes
    → ((rest : List ℕ) → Spaced ts rest → members_by (expression_by (gate_at (d - 1))) 257 k rest ≡ Err f)
    → expression_by (gate_at d) k bytes ≡ Err f
member_fault all_head d k ts f bytes pos sp inner =
    let w = next_word All (opening ∷ ts) bytes sp in
    let l = next_opening ts w.rest w.spaced in
    gate_members_fault d k All every f bytes w.rest l.rest pos w.is (head_all w.rest l.rest l.is) (inner l.rest l.spaced)
member_fault any_head d k ts f bytes pos sp inner =
    let w = next_word Any (opening ∷ ts) bytes sp in
    let l = next_opening ts w.rest w.spaced in
    gate_members_fault d k Any one f bytes w.rest l.rest pos w.is (head_any w.rest l.rest l.is) (inner l.rest l.spaced)
member_fault (out_of_head {n}) d k ts f bytes pos sp inner =
    let w = next_word OutOf (opening ∷ number n ∷ comma ∷ ts) bytes sp in
    let l = next_opening (number n ∷ comma ∷ ts) w.rest w.spaced in
    let m = next_number n (comma ∷ ts) l.rest l.spaced in
    let c = next_comma ts m.rest m.spaced in
    gate_members_fault d k OutOf (at_least n) f bytes w.rest c.rest pos w.is (head_out_of n w.rest l.rest m.rest c.rest l.is m.is c.is) (inner c.rest c.spaced)

-- ---- the threshold

made_fault : (n : ℕ) (ms : List Tree) (a b : Bool) → nat_le 1 n ≡ a → nat_le n (length ms) ≡ b
    → (1 ≤ n → n ≤ length ms → ⊥) → cond (a && b) (Ok (gate n (trees ms))) (Err threshold_fault) ≡ Err threshold_fault
made_fault n ms true true p q h =
    let x : 1 ≤ n = grind (arith, nat_tests) in let y : n ≤ length ms = grind (arith, nat_tests) in absurd (h x y)
made_fault n ms true false p q h = refl
made_fault n ms false b p q h = refl

threshold_fault_at : (d k k' n : ℕ) (ms : Trees) (post : List Token) (bytes rest inside : List ℕ) → 1 ≤ d
    → token_at bytes ≡ (word OutOf, rest) → head_at OutOf rest ≡ Ok (at_least n, inside) → (1 ≤ n → n ≤ count ms → ⊥)
    → Reads (List Tree) (members_by (expression_by (gate_at (d - 1))) 257) k inside (list ms) k' post
    → expression_by (gate_at d) k bytes ≡ Err threshold_fault
threshold_fault_at d k k' n ms post bytes rest inside pos t h unmet r =
    let unmet' : (1 ≤ n → n ≤ length (list ms) → ⊥) = subst (λ (m : ℕ). 1 ≤ n → n ≤ m → ⊥) (sym (length_list ms)) unmet in
    expression_is (gate_at d) k bytes rest (word OutOf) t ∙ gate_is d (d - 1) (omega arith) OutOf k k refl rest (at_least n) inside h ∙ bind_is (members_by (expression_by (gate_at (d - 1))) 257 k inside) _ _ r.is ∙ bind_fault (made (at_least n) (list ms)) threshold_fault _ (made_fault n (list ms) (nat_le 1 n) (nat_le n (length (list ms))) refl refl unmet')

threshold_case : (d k n : ℕ) (ms : Trees) (ts us : List Token) (bytes : List ℕ) → 1 ≤ d → SpellsMembers ms ts
    → k + all_leaves ms ≤ 256 → most_depth ms ≤ d - 1 → (1 ≤ n → n ≤ count ms → ⊥)
    → Spaced (word OutOf ∷ opening ∷ number n ∷ comma ∷ (ts ++ us)) bytes
    → expression_by (gate_at d) k bytes ≡ Err threshold_fault
threshold_case d k n ms ts us bytes pos m few flat unmet sp =
    let w = next_word OutOf (opening ∷ number n ∷ comma ∷ (ts ++ us)) bytes sp in
    let l = next_opening (number n ∷ comma ∷ (ts ++ us)) w.rest w.spaced in
    let e = next_number n (comma ∷ (ts ++ us)) l.rest l.spaced in
    let c = next_comma (ts ++ us) e.rest e.spaced in
    threshold_fault_at d k (k + all_leaves ms) n ms us bytes w.rest c.rest pos w.is (head_out_of n w.rest l.rest e.rest c.rest l.is e.is c.is) unmet (members_complete m 257 (d - 1) k us c.rest (omega (arith, some_leaves m)) flat few c.spaced)

-- ---- members

first_fault : (ex : Reader Tree) (n k : ℕ) (f : Fault) (bytes : List ℕ) → 1 ≤ n → ex k bytes ≡ Err f
    → members_by ex n k bytes ≡ Err f
first_fault ex n k f bytes pos e = members_step ex n k bytes pos ∙ bind_fault (ex k bytes) f _ e

unclosed_fault : (ex : Reader Tree) (n k k' : ℕ) (t : Tree) (us : List Token) (bytes : List ℕ) → 1 ≤ n
    → Reads Tree ex k bytes t k' us → first us ≢ comma → first us ≢ closing
    → members_by ex n k bytes ≡ Err syntax_fault
unclosed_fault ex n k k' t us bytes pos r c d =
    members_step ex n k bytes pos ∙ bind_is (ex k bytes) _ _ r.is ∙ bind_fault (separator_at r.rest) syntax_fault _ (separator_fault us r.rest r.spaced c d)

later_fault : (ex : Reader Tree) (n k k' : ℕ) (t : Tree) (f : Fault) (us : List Token) (bytes : List ℕ) → 1 ≤ n
    → Reads Tree ex k bytes t k' (comma ∷ us)
    → ((rest : List ℕ) → Spaced us rest → members_by ex (n - 1) k' rest ≡ Err f) → members_by ex n k bytes ≡ Err f
later_fault ex n k k' t f us bytes pos r others =
    let c = next_comma us r.rest r.spaced in
    members_step ex n k bytes pos ∙ bind_is (ex k bytes) _ _ r.is ∙ bind_is (separator_at r.rest) (true, c.rest) _ (separator_comma r.rest c.rest c.is) ∙ bind_fault (members_by ex (n - 1) k' c.rest) f _ (others c.rest c.spaced)

-- ---- the law

mutual
  pub fails_exact : {g k : ℕ} {ts : List Token} {f : Fault} → Fails g k ts f → (d : ℕ) (bytes : List ℕ) → d + g ≡ 32
      → k ≤ 256 → Spaced ts bytes → expression_by (gate_at d) k bytes ≡ Err f
  fails_exact (no_expression {g} {k} {ts} h) d bytes e few sp = expression_none (gate_at d) k ts bytes sp h
  fails_exact (no_role {g} {k} {ts}) d bytes e few sp = no_principal_fault (gate_at d) k ts bytes sp
  fails_exact (too_many {g} {k} {org} {role} {ts} h) d bytes e few sp =
      principal_fault (gate_at d) k org role ts bytes sp h
  fails_exact (too_deep {g} {k} {w} {ts} h) d bytes e few sp = deep_fault d k w ts bytes (omega arith) sp
  fails_exact (no_head {g} {k} {ts} lt h) d bytes e few sp = no_head_fault h d k bytes (omega arith) sp
  fails_exact (member_fails {g} {k} {head} {ts} {f} lt h m) d bytes e few sp =
      member_fault h d k ts f bytes (omega arith) sp (λ rest inside. members_exact m 257 (d - 1) rest (omega arith) few (omega arith) inside)
  fails_exact (no_threshold {g} {k} {n} {members} {ts} us lt m many flat unmet) d bytes e few sp =
      threshold_case d k n members ts us bytes (omega arith) m many (omega arith) unmet sp

  pub members_exact : {g k : ℕ} {ts : List Token} {f : Fault} → FailsMembers g k ts f → (n d : ℕ) (bytes : List ℕ)
      → d + g ≡ 32 → k ≤ 256 → 257 ≤ n + k → Spaced ts bytes
      → members_by (expression_by (gate_at d)) n k bytes ≡ Err f
  members_exact (first_fails {g} {k} {ts} {f} h) n d bytes e few room sp =
      first_fault (expression_by (gate_at d)) n k f bytes (omega arith) (fails_exact h d bytes e few sp)
  members_exact (no_separator {g} {k} {t} {ts} us s keeps c r) n d bytes e few room sp =
      unclosed_fault (expression_by (gate_at d)) n k (k + leaves t) t us bytes (omega arith) (expression_complete s d k us bytes (omega (arith, keeps.flat)) keeps.few sp) c r
  members_exact (later_fails {g} {k} {t} {ts} {us} {f} s keeps m) n d bytes e few room sp =
      later_fault (expression_by (gate_at d)) n k (k + leaves t) t f us bytes (omega arith) (expression_complete s d k (comma ∷ us) bytes (omega (arith, keeps.flat)) keeps.few sp) (λ rest inside. members_exact m (n - 1) d rest e keeps.few (omega (arith, some_leaf s)) inside)
