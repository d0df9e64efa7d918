-- Reading a policy, computed: a tree and what follows it, or the first fault from the left. It stands between the
-- code and the grammar: nobody has to believe it, for the law `policy_reading` ties what it gives to the grammar.
use Rattle.std.specs.Prelude.{ℕ, zero, suc, ◌+◌, List, [], ◌∷◌, length, Bool, true, false, ◌&&◌, nat_le, nat_lt, if◌then◌else◌, Result, Ok, Err}
use Rattle.policy.specs.declared.token.Word.{Word}
use Rattle.policy.specs.declared.token.Word.TheVariants.{All, Any, OutOf}
use Rattle.policy.specs.Limits.{max_text_bytes, max_principals, max_nested_gates}
use Rattle.policy.specs.Tree.{Tree, principal, gate}
use Rattle.policy.specs.View.{trees}
use Rattle.policy.specs.Token.{Token, opening, closing, comma, word, number, principal_token, no_principal, ended}
use Rattle.policy.specs.Lexing.{token_at}
use Rattle.policy.specs.Fault.{Fault, syntax_fault, role_fault, threshold_fault, depth_fault, size_fault}

infixl 10 ◌>>=◌
abbrev pub ◌>>=◌ : {A B : Type 0} → Result A Fault → (A → Result B Fault) → Result B Fault
(Ok x) >>= f = f x
(Err e) >>= f = Err e

-- a value, how many principals were read so far, and what follows
pub record Read (A : Type 0) : Type 0 where
  pub value : A
  pub principals : ℕ
  pub rest : List ℕ

abbrev pub Reader : Type 0 → Type 0
Reader A = ℕ → List ℕ → Result (Read A) Fault

-- which threshold a gate asks for
pub data Asked : Type 0 where
  every : Asked
  one : Asked
  at_least : ℕ → Asked

-- ---- the head of a gate, behind its word

abbrev pub expected_opening : Token → List ℕ → Result (List ℕ) Fault
expected_opening opening rest = Ok rest
expected_opening t rest = Err syntax_fault

abbrev pub expected_comma : Token → List ℕ → Result (List ℕ) Fault
expected_comma comma rest = Ok rest
expected_comma t rest = Err syntax_fault

abbrev pub expected_number : Token → List ℕ → Result (ℕ × List ℕ) Fault
expected_number (number n) rest = Ok (n, rest)
expected_number t rest = Err syntax_fault

unfoldable pub opening_at : List ℕ → Result (List ℕ) Fault
opening_at bytes = let t = token_at bytes in expected_opening t.0 t.1

unfoldable pub comma_at : List ℕ → Result (List ℕ) Fault
comma_at bytes = let t = token_at bytes in expected_comma t.0 t.1

unfoldable pub threshold_at : List ℕ → Result (ℕ × List ℕ) Fault
threshold_at bytes = let t = token_at bytes in expected_number t.0 t.1

-- a comma, or else a closing parenthesis
abbrev pub expected_separator : Token → List ℕ → Result (Bool × List ℕ) Fault
expected_separator comma rest = Ok (true, rest)
expected_separator closing rest = Ok (false, rest)
expected_separator t rest = Err syntax_fault

unfoldable pub separator_at : List ℕ → Result (Bool × List ℕ) Fault
separator_at bytes = let t = token_at bytes in expected_separator t.0 t.1

unfoldable pub head_at : Word → List ℕ → Result (Asked × List ℕ) Fault
head_at All bytes = opening_at bytes >>= λ rest. Ok (every, rest)
head_at Any bytes = opening_at bytes >>= λ rest. Ok (one, rest)
head_at OutOf bytes =
    opening_at bytes >>= λ inside. threshold_at inside >>= λ n. comma_at n.1 >>= λ rest. Ok (at_least n.0, rest)

-- ---- members, of which each has a principal, so that there are no more than their limit

abbrev pub after_member : Reader (List Tree) → Read Tree → Bool → List ℕ → Result (Read (List Tree)) Fault
after_member others first true rest =
    others first.principals rest >>= λ ms. Ok (record ms { value = first.value ∷ ms.value })
after_member others first false rest =
    Ok (record { value = first.value ∷ []; principals = first.principals; rest = rest })

unfoldable pub members_by : Reader Tree → ℕ → Reader (List Tree)
members_by expression zero k bytes = Err size_fault
members_by expression (suc n) k bytes =
    expression k bytes >>= λ first. separator_at first.rest >>= λ next. after_member (members_by expression n) first next.0 next.1

-- ---- gates and expressions

abbrev pub made : Asked → List Tree → Result Tree Fault
made every members = Ok (gate (length members) (trees members))
made one members = Ok (gate 1 (trees members))
made (at_least n) members =
    if nat_le 1 n && nat_le n (length members) then Ok (gate n (trees members)) else Err threshold_fault

abbrev pub closed : Asked → Read (List Tree) → Result (Read Tree) Fault
closed asked members =
    made asked members.value >>= λ t. Ok (record { value = t; principals = members.principals; rest = members.rest })

abbrev pub first_token : (Word → Reader Tree) → ℕ → Token → List ℕ → Result (Read Tree) Fault
first_token gates k (word w) rest = gates w k rest
first_token gates k (principal_token org role) rest =
    if nat_lt k max_principals then Ok (record { value = principal org role; principals = k + 1; rest = rest }) else Err size_fault
first_token gates k no_principal rest = Err role_fault
first_token gates k t rest = Err syntax_fault

unfoldable pub expression_by : (Word → Reader Tree) → Reader Tree
expression_by gates k bytes = first_token gates k (token_at bytes).0 (token_at bytes).1

-- a gate behind its word, by what reads the gates inside it
unfoldable pub gate_by : (Word → Reader Tree) → Word → Reader Tree
gate_by gates w k bytes =
    head_at w bytes >>= λ head. members_by (expression_by gates) 257 k head.1 >>= λ members. closed head.0 members

-- the same, where so many gates may be nested, this one included
unfoldable pub gate_at : ℕ → Word → Reader Tree
gate_at zero w k bytes = Err depth_fault
gate_at (suc d) w k bytes = gate_by (gate_at d) w k bytes

abbrev pub last_token : Tree → Token → Result Tree Fault
last_token t ended = Ok t
last_token t other = Err syntax_fault

-- the policy that the text spells, or its fault
unfoldable pub policy_at : List ℕ → Result Tree Fault
policy_at bytes =
    if nat_lt max_text_bytes (length bytes) then Err size_fault
    else (expression_by (gate_at max_nested_gates) 0 bytes >>= λ read. last_token read.value (token_at read.rest).0)
