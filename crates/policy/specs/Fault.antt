-- The kind of a text's first fault from the left: the rules of the grammar with one part that fails, all before it
-- being spelled.
use Rattle.std.specs.Prelude.{◌≢◌, ℕ, suc, ◌+◌, ◌<◌, ◌≤◌, List, [], ◌∷◌, ◌++◌, length}
use Rattle.policy.specs.declared.tree.PolicyRole.{PolicyRole}
use Rattle.policy.specs.declared.token.Word.{Word}
use Rattle.policy.specs.declared.token.Word.TheVariants.{All, Any, OutOf}
use Rattle.policy.specs.Limits.{max_text_bytes, max_principals, max_nested_gates}
use Rattle.policy.specs.Tree.{Tree, Trees, leaves, all_leaves}
use Rattle.policy.specs.Token.{Token, opening, closing, comma, word, number, principal_token, no_principal, ended, Spaced}
use Rattle.policy.specs.Grammar.{Spells, SpellsMembers, count, depth, most_depth}

pub data Fault : Type 0 where
  -- a token that can't stand there, or the end of the text
  syntax_fault : Fault
  -- between quotes, but no principal
  role_fault : Fault
  -- a gate that asks for none of its members, or for too many
  threshold_fault : Fault
  -- a 33rd gate inside 32 others
  depth_fault : Fault
  -- more than 4,096 bytes, or a 257th principal
  size_fault : Fault

-- the token that stands first
abbrev pub first : List Token → Token
first [] = ended
first (t ∷ ts) = t

-- No expression begins with this token, and it doesn't stand for a principal that is none.
abbrev pub BeginsNone : Token → Type 0
BeginsNone (word w) = ⊥
BeginsNone (principal_token org role) = ⊥
BeginsNone no_principal = ⊥
BeginsNone t = Unit {0}

-- What stands before the first member of a gate.
pub data Head : List Token → Type 0 where
  all_head : Head (word All ∷ opening ∷ [])
  any_head : Head (word Any ∷ opening ∷ [])
  out_of_head : {n : ℕ} → Head (word OutOf ∷ opening ∷ number n ∷ comma ∷ [])

-- Behind a gate's word one part of its head isn't there.
pub data NoHead : List Token → Type 0 where
  no_opening : {w : Word} {ts : List Token}
      → first ts ≢ opening
      → NoHead (word w ∷ ts)
  no_number : {ts : List Token}
      → ((n : ℕ) → first ts ≢ number n)
      → NoHead (word OutOf ∷ opening ∷ ts)
  no_comma : {n : ℕ} {ts : List Token}
      → first ts ≢ comma
      → NoHead (word OutOf ∷ opening ∷ number n ∷ ts)

-- A tree that keeps the limits inside g gates and after k principals.
pub record Keeps (g k : ℕ) (t : Tree) : Type 0 where
  pub few : k + leaves t ≤ max_principals
  pub flat : g + depth t ≤ max_nested_gates

mutual
  -- Inside g gates and after k principals the expression that stands at the front has this fault.
  pub data Fails : ℕ → ℕ → List Token → Fault → Type 0 where
    no_expression : {g k : ℕ} {ts : List Token}
        → BeginsNone (first ts)
        → Fails g k ts syntax_fault
    no_role : {g k : ℕ} {ts : List Token}
        → Fails g k (no_principal ∷ ts) role_fault
    too_many : {g k : ℕ} {org : List ℕ} {role : PolicyRole} {ts : List Token}
        → max_principals ≤ k
        → Fails g k (principal_token org role ∷ ts) size_fault
    too_deep : {g k : ℕ} {w : Word} {ts : List Token}
        → max_nested_gates ≤ g
        → Fails g k (word w ∷ ts) depth_fault
    no_head : {g k : ℕ} {ts : List Token}
        → g < max_nested_gates
        → NoHead ts
        → Fails g k ts syntax_fault
    member_fails : {g k : ℕ} {head ts : List Token} {f : Fault}
        → g < max_nested_gates
        → Head head
        → FailsMembers (suc g) k ts f
        → Fails g k (head ++ ts) f
    -- known at the closing parenthesis, whatever follows
    no_threshold : {g k n : ℕ} {members : Trees} {ts : List Token} (us : List Token)
        → g < max_nested_gates
        → SpellsMembers members ts
        → k + all_leaves members ≤ max_principals
        → suc g + most_depth members ≤ max_nested_gates
        → (1 ≤ n → n ≤ count members → ⊥)
        → Fails g k (word OutOf ∷ opening ∷ number n ∷ comma ∷ (ts ++ us)) threshold_fault

  -- The same of a gate's members and its closing parenthesis.
  pub data FailsMembers : ℕ → ℕ → List Token → Fault → Type 0 where
    first_fails : {g k : ℕ} {ts : List Token} {f : Fault}
        → Fails g k ts f
        → FailsMembers g k ts f
    no_separator : {g k : ℕ} {t : Tree} {ts : List Token} (us : List Token)
        → Spells t ts
        → Keeps g k t
        → first us ≢ comma
        → first us ≢ closing
        → FailsMembers g k (ts ++ us) syntax_fault
    later_fails : {g k : ℕ} {t : Tree} {ts us : List Token} {f : Fault}
        → Spells t ts
        → Keeps g k t
        → FailsMembers g (k + leaves t) us f
        → FailsMembers g k (ts ++ comma ∷ us) f

-- The kind of the fault of a text.
pub data HasFault : List ℕ → Fault → Type 0 where
  too_long : {text : List ℕ}
      → max_text_bytes < length text
      → HasFault text size_fault
  fails : {text : List ℕ} {ts : List Token} {f : Fault}
      → length text ≤ max_text_bytes
      → Spaced ts text
      → Fails 0 0 ts f
      → HasFault text f
  -- something stands behind the policy
  goes_on : {text : List ℕ} {t : Tree} {ts : List Token} (us : List Token)
      → length text ≤ max_text_bytes
      → Spaced (ts ++ us) text
      → Spells t ts
      → Keeps 0 0 t
      → us ≢ []
      → HasFault text syntax_fault
