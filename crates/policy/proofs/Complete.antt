-- What is spelled is read.
use Rattle.std.proofs.Common.{◌≡◌, ℕ, suc, ◌-◌, ◌+◌, ◌≤◌, ◌<◌, true, false, List, [], ◌∷◌, ◌++◌, length, Ok, refl, sym, ap, ◌∙◌, subst, append_assoc, arith}
use Rattle.std.specs.Prelude.{nat_lt, nat_le}
use Rattle.std.proofs.lemmas.Bool.Decides.{nat_tests}
use Rattle.policy.specs.declared.tree.PolicyRole.{PolicyRole}
use Rattle.policy.specs.declared.token.Word.{Word}
use Rattle.policy.specs.declared.token.Word.TheVariants.{All, Any, OutOf}
use Rattle.policy.specs.Tree.{Tree, Trees, principal, gate, none, more, leaves, all_leaves}
use Rattle.policy.specs.View.{trees}
use Rattle.policy.specs.Token.{Token, opening, closing, comma, word, number, principal_token, Spaced}
use Rattle.policy.specs.Lexing.{token_at}
use Rattle.policy.specs.Grammar.{Spells, principal_is, all_is, any_is, out_of_is, SpellsMembers, last_is, more_are, count, depth, most_depth}
use Rattle.policy.specs.Reading.{◌>>=◌, Reader, Asked, every, one, at_least, head_at, expected_opening, expected_comma, expected_number, expected_separator, opening_at, comma_at, threshold_at, separator_at, after_member, members_by, expression_by, first_token, gate_at, made}
use Rattle.policy.proofs.Spaces.{Front, next_opening, next_closing, next_comma, next_word, next_number, next_principal}
use Rattle.policy.proofs.Loop.{bind_is, gate_is}

-- the trees of a list
abbrev pub list : Trees → List Tree
list none = []
list (more t ts) = t ∷ list ts

pub trees_list : (ts : Trees) → trees (list ts) ≡ ts
trees_list none = refl
trees_list (more t ts) = ap (more t) (trees_list ts)

pub length_list : (ts : Trees) → length (list ts) ≡ count ts
length_list none = refl
length_list (more t ts) = ap suc (length_list ts)

-- a tree that is read at the front, and what follows it
pub record Reads (A : Type 0) (reader : Reader A) (k : ℕ) (bytes : List ℕ) (value : A) (k' : ℕ) (post : List Token) : Type 0 where
  pub rest : List ℕ
  pub spaced : Spaced post rest
  pub is : reader k bytes ≡ Ok (record { value = value; principals = k'; rest = rest })

-- ---- steps

pub lt_test : (a b : ℕ) → a < b → nat_lt a b ≡ true
lt_test a b h = grind (arith, nat_tests)

pub le_test : (a b : ℕ) → a ≤ b → nat_le a b ≡ true
le_test a b h = grind (arith, nat_tests)

module _ (gates : Word → Reader Tree) (k : ℕ) (bytes rest : List ℕ) where
  pub expression_is : (t : Token) → token_at bytes ≡ (t, rest)
      → expression_by gates k bytes ≡ first_token gates k t rest
  unfolding expression_by
  expression_is t e = ap (λ (x : Token × List ℕ). first_token gates k x.0 x.1) e

principal_reads : (org : List ℕ) (role : PolicyRole) (d k : ℕ) (post : List Token) (bytes : List ℕ) → k + 1 ≤ 256
    → Front (principal_token org role) post bytes
    → Reads Tree (expression_by (gate_at d)) k bytes (principal org role) (k + 1) post
principal_reads org role d k post bytes few f =
    record { rest = f.rest; spaced = f.spaced; is = expression_is (gate_at d) k bytes f.rest (principal_token org role) f.is ∙ rw (lt_test k 256 (omega arith)) refl }

pub opening_is : (bytes rest : List ℕ) → token_at bytes ≡ (opening, rest) → opening_at bytes ≡ Ok rest
unfolding opening_at
opening_is bytes rest e = ap (λ (x : Token × List ℕ). expected_opening x.0 x.1) e

pub comma_is : (bytes rest : List ℕ) → token_at bytes ≡ (comma, rest) → comma_at bytes ≡ Ok rest
unfolding comma_at
comma_is bytes rest e = ap (λ (x : Token × List ℕ). expected_comma x.0 x.1) e

pub threshold_is : (n : ℕ) (bytes rest : List ℕ) → token_at bytes ≡ (number n, rest)
    → threshold_at bytes ≡ Ok (n, rest)
unfolding threshold_at
threshold_is n bytes rest e = ap (λ (x : Token × List ℕ). expected_number x.0 x.1) e

pub separator_comma : (bytes rest : List ℕ) → token_at bytes ≡ (comma, rest) → separator_at bytes ≡ Ok (true, rest)
unfolding separator_at
separator_comma bytes rest e = ap (λ (x : Token × List ℕ). expected_separator x.0 x.1) e

pub separator_closing : (bytes rest : List ℕ) → token_at bytes ≡ (closing, rest)
    → separator_at bytes ≡ Ok (false, rest)
unfolding separator_at
separator_closing bytes rest e = ap (λ (x : Token × List ℕ). expected_separator x.0 x.1) e

pub head_all : (bytes rest : List ℕ) → token_at bytes ≡ (opening, rest) → head_at All bytes ≡ Ok (every, rest)
unfolding head_at
head_all bytes rest e = bind_is (opening_at bytes) rest _ (opening_is bytes rest e)

pub head_any : (bytes rest : List ℕ) → token_at bytes ≡ (opening, rest) → head_at Any bytes ≡ Ok (one, rest)
unfolding head_at
head_any bytes rest e = bind_is (opening_at bytes) rest _ (opening_is bytes rest e)

pub head_out_of : (n : ℕ) (bytes a b rest : List ℕ) → token_at bytes ≡ (opening, a) → token_at a ≡ (number n, b)
    → token_at b ≡ (comma, rest) → head_at OutOf bytes ≡ Ok (at_least n, rest)
unfolding head_at
head_out_of n bytes a b rest l m c =
    bind_is (opening_at bytes) a _ (opening_is bytes a l) ∙ bind_is (threshold_at a) (n, b) _ (threshold_is n a b m) ∙ bind_is (comma_at b) rest _ (comma_is b rest c)

made_every : (ms : Trees) → made every (list ms) ≡ Ok (gate (count ms) ms)
made_every ms = rw (length_list ms, trees_list ms) refl

made_one : (ms : Trees) → made one (list ms) ≡ Ok (gate 1 ms)
made_one ms = rw (trees_list ms) refl

made_some : (n : ℕ) (ms : Trees) → 1 ≤ n → n ≤ count ms → made (at_least n) (list ms) ≡ Ok (gate n ms)
made_some n ms low high = rw (length_list ms, trees_list ms, le_test 1 n low, le_test n (count ms) high) refl

gate_reads : (d k k' : ℕ) (w : Word) (a : Asked) (t : Tree) (ms : List Tree) (post : List Token) (bytes rest inside : List ℕ)
    → 1 ≤ d → token_at bytes ≡ (word w, rest) → head_at w rest ≡ Ok (a, inside) → made a ms ≡ Ok t
    → Reads (List Tree) (members_by (expression_by (gate_at (d - 1))) 257) k inside ms k' post
    → Reads Tree (expression_by (gate_at d)) k bytes t k' post
gate_reads d k k' w a t ms post bytes rest inside some e h m r =
    record {
      rest = r.rest;
      spaced = r.spaced;
      is = expression_is (gate_at d) k bytes rest (word w) e
          ∙ gate_is d (d - 1) (omega arith) w k k refl rest a inside h
          ∙ bind_is (members_by (expression_by (gate_at (d - 1))) 257 k inside) _ _ r.is
          ∙ bind_is (made a ms) t _ m;
    }

module _ (ex : Reader Tree) (n k : ℕ) (bytes : List ℕ) (some : 1 ≤ n) where
  pub members_step : members_by ex n k bytes ≡ (ex k bytes >>= λ first. separator_at first.rest >>= λ next. after_member (members_by ex (n - 1)) first next.0 next.1)
  unfolding members_by
  members_step =
      let e : n ≡ suc (n - 1) = omega arith in subst (λ (i : ℕ). members_by ex i k bytes ≡ (ex k bytes >>= λ first. separator_at first.rest >>= λ next. after_member (members_by ex (n - 1)) first next.0 next.1)) (sym e) refl

  last_reads : (t : Tree) (k' k'' : ℕ) (post : List Token) → k' ≡ k'' → Reads Tree ex k bytes t k' (closing ∷ post)
      → Reads (List Tree) (members_by ex n) k bytes (t ∷ []) k'' post
  last_reads t k' k'' post same r =
      let f = next_closing post r.rest r.spaced in
      record {
        rest = f.rest;
        spaced = f.spaced;
        is =
            members_step ∙ bind_is (ex k bytes) _ _ r.is ∙ bind_is (separator_at r.rest) (false, f.rest) _ (separator_closing r.rest f.rest f.is) ∙ ap (λ (m : ℕ). Ok (record { value = t ∷ []; principals = m; rest = f.rest })) same;
      }

  more_reads : (t : Tree) (ts : List Tree) (k' k'' k3 : ℕ) (us post : List Token) → k'' ≡ k3
      → Reads Tree ex k bytes t k' (comma ∷ us)
      → ((rest : List ℕ) → Spaced us rest → Reads (List Tree) (members_by ex (n - 1)) k' rest ts k'' post)
      → Reads (List Tree) (members_by ex n) k bytes (t ∷ ts) k3 post
  more_reads t ts k' k'' k3 us post same r others =
      let f = next_comma us r.rest r.spaced in
      let o = others f.rest f.spaced in
      record {
        rest = o.rest;
        spaced = o.spaced;
        is =
            members_step ∙ bind_is (ex k bytes) _ _ r.is ∙ bind_is (separator_at r.rest) (true, f.rest) _ (separator_comma r.rest f.rest f.is) ∙ bind_is (members_by ex (n - 1) k' f.rest) _ _ o.is ∙ ap (λ (m : ℕ). Ok (record { value = t ∷ ts; principals = m; rest = o.rest })) same;
      }

all_reads : (ms : Trees) (ts post : List Token) (d k k' : ℕ) (bytes : List ℕ) → 1 ≤ d
    → Spaced (word All ∷ opening ∷ (ts ++ post)) bytes
    → ((rest : List ℕ) → Spaced (ts ++ post) rest → Reads (List Tree) (members_by (expression_by (gate_at (d - 1))) 257) k rest (list ms) k' post)
    → Reads Tree (expression_by (gate_at d)) k bytes (gate (count ms) ms) k' post
all_reads ms ts post d k k' bytes some sp inner =
    let w = next_word All (opening ∷ (ts ++ post)) bytes sp in
    let l = next_opening (ts ++ post) w.rest w.spaced in
    gate_reads d k k' All every (gate (count ms) ms) (list ms) post bytes w.rest l.rest some w.is (head_all w.rest l.rest l.is) (made_every ms) (inner l.rest l.spaced)

any_reads : (ms : Trees) (ts post : List Token) (d k k' : ℕ) (bytes : List ℕ) → 1 ≤ d
    → Spaced (word Any ∷ opening ∷ (ts ++ post)) bytes
    → ((rest : List ℕ) → Spaced (ts ++ post) rest → Reads (List Tree) (members_by (expression_by (gate_at (d - 1))) 257) k rest (list ms) k' post)
    → Reads Tree (expression_by (gate_at d)) k bytes (gate 1 ms) k' post
any_reads ms ts post d k k' bytes some sp inner =
    let w = next_word Any (opening ∷ (ts ++ post)) bytes sp in
    let l = next_opening (ts ++ post) w.rest w.spaced in
    gate_reads d k k' Any one (gate 1 ms) (list ms) post bytes w.rest l.rest some w.is (head_any w.rest l.rest l.is) (made_one ms) (inner l.rest l.spaced)

out_of_reads : (n : ℕ) (ms : Trees) (ts post : List Token) (d k k' : ℕ) (bytes : List ℕ) → 1 ≤ n → n ≤ count ms
    → 1 ≤ d → Spaced (word OutOf ∷ opening ∷ number n ∷ comma ∷ (ts ++ post)) bytes
    → ((rest : List ℕ) → Spaced (ts ++ post) rest → Reads (List Tree) (members_by (expression_by (gate_at (d - 1))) 257) k rest (list ms) k' post)
    → Reads Tree (expression_by (gate_at d)) k bytes (gate n ms) k' post
out_of_reads n ms ts post d k k' bytes low high some sp inner =
    let w = next_word OutOf (opening ∷ number n ∷ comma ∷ (ts ++ post)) bytes sp in
    let l = next_opening (number n ∷ comma ∷ (ts ++ post)) w.rest w.spaced in
    let m = next_number n (comma ∷ (ts ++ post)) l.rest l.spaced in
    let c = next_comma (ts ++ post) m.rest m.spaced in
    gate_reads d k k' OutOf (at_least n) (gate n ms) (list ms) post bytes w.rest c.rest some w.is (head_out_of n w.rest l.rest m.rest c.rest l.is m.is c.is) (made_some n ms low high) (inner c.rest c.spaced)

-- ---- every tree that is spelled has a principal

mutual
  pub some_leaf : {t : Tree} {ts : List Token} → Spells t ts → 1 ≤ leaves t
  some_leaf principal_is = omega arith
  some_leaf (all_is m) = omega (arith, some_leaves m)
  some_leaf (any_is m) = omega (arith, some_leaves m)
  some_leaf (out_of_is low high m) = omega (arith, some_leaves m)

  pub some_leaves : {ms : Trees} {ts : List Token} → SpellsMembers ms ts → (1 ≤ count ms) × (count ms ≤ all_leaves ms)
  some_leaves (last_is s) = (omega arith, omega (arith, some_leaf s))
  some_leaves (more_are s m) = (omega arith, omega (arith, some_leaf s, some_leaves m))

-- ---- the law

mutual
  pub expression_complete : {t : Tree} {ts : List Token} → Spells t ts
      → (d k : ℕ) (post : List Token) (bytes : List ℕ) → depth t ≤ d → k + leaves t ≤ 256 → Spaced (ts ++ post) bytes
      → Reads Tree (expression_by (gate_at d)) k bytes t (k + leaves t) post
  expression_complete (principal_is {org} {role}) d k post bytes flat few sp =
      principal_reads org role d k post bytes few (next_principal org role post bytes sp)
  expression_complete (all_is {members} {ts} m) d k post bytes flat few sp =
      all_reads members ts post d k (k + all_leaves members) bytes (omega arith) sp (λ rest inside. members_complete m 257 (d - 1) k post rest (omega (arith, some_leaves m)) (omega arith) few inside)
  expression_complete (any_is {members} {ts} m) d k post bytes flat few sp =
      any_reads members ts post d k (k + all_leaves members) bytes (omega arith) sp (λ rest inside. members_complete m 257 (d - 1) k post rest (omega (arith, some_leaves m)) (omega arith) few inside)
  expression_complete (out_of_is {n} {members} {ts} low high m) d k post bytes flat few sp =
      out_of_reads n members ts post d k (k + all_leaves members) bytes low high (omega arith) sp (λ rest inside. members_complete m 257 (d - 1) k post rest (omega (arith, some_leaves m)) (omega arith) few inside)

  pub members_complete : {ms : Trees} {ts : List Token} → SpellsMembers ms ts
      → (n d k : ℕ) (post : List Token) (bytes : List ℕ) → count ms ≤ n → most_depth ms ≤ d → k + all_leaves ms ≤ 256
      → Spaced (ts ++ post) bytes
      → Reads (List Tree) (members_by (expression_by (gate_at d)) n) k bytes (list ms) (k + all_leaves ms) post
  members_complete (last_is {t} {ts} s) n d k post bytes c flat few sp =
      last_reads (expression_by (gate_at d)) n k bytes (omega arith) t (k + leaves t) (k + (leaves t + 0)) post (omega arith) (expression_complete s d k (closing ∷ post) bytes (omega arith) (omega arith) (subst (λ (x : List Token). Spaced x bytes) (append_assoc ts (closing ∷ []) post) sp))
  members_complete (more_are {t} {members} {ts} {us} s m) n d k post bytes c flat few sp =
      more_reads (expression_by (gate_at d)) n k bytes (omega arith) t (list members) (k + leaves t) (k + leaves t + all_leaves members) (k + (leaves t + all_leaves members)) (us ++ post) post (omega arith) (expression_complete s d k (comma ∷ (us ++ post)) bytes (omega arith) (omega arith) (subst (λ (x : List Token). Spaced x bytes) (append_assoc ts (comma ∷ us) post) sp)) (λ rest inside. members_complete m (n - 1) d (k + leaves t) post rest (omega arith) (omega arith) (omega arith) inside)
