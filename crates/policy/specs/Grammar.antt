-- The grammar: which tokens, and which texts, spell a tree.
use Rattle.std.specs.Prelude.{ℕ, suc, ◌≤◌, max, List, [], ◌∷◌, ◌++◌, length}
use Rattle.policy.specs.declared.tree.PolicyRole.{PolicyRole}
use Rattle.policy.specs.declared.token.Word.TheVariants.{All, Any, OutOf}
use Rattle.policy.specs.Limits.{max_text_bytes, max_principals, max_nested_gates}
use Rattle.policy.specs.Tree.{Tree, Trees, principal, gate, none, more, leaves}
use Rattle.policy.specs.Token.{Token, opening, closing, comma, word, number, principal_token, Spaced}

-- how many members
abbrev pub count : Trees → ℕ
count none = 0
count (more t ts) = suc (count ts)

-- how many gates are nested
abbrev mutual
  pub depth : Tree → ℕ
  depth (principal org r) = 0
  depth (gate n members) = suc (most_depth members)

  pub most_depth : Trees → ℕ
  most_depth none = 0
  most_depth (more t ts) = max (depth t) (most_depth ts)

mutual
  -- The tokens spell the tree.
  pub data Spells : Tree → List Token → Type 0 where
    -- ORG.ROLE between quotes
    principal_is : {org : List ℕ} {role : PolicyRole} → Spells (principal org role) (principal_token org role ∷ [])
    -- AND ( expression , .. )
    all_is : {members : Trees} {ts : List Token}
        → SpellsMembers members ts
        → Spells (gate (count members) members) (word All ∷ opening ∷ ts)
    -- OR ( expression , .. )
    any_is : {members : Trees} {ts : List Token}
        → SpellsMembers members ts
        → Spells (gate 1 members) (word Any ∷ opening ∷ ts)
    -- OutOf ( number , expression , .. )
    out_of_is : {n : ℕ} {members : Trees} {ts : List Token}
        → 1 ≤ n
        → n ≤ count members
        → SpellsMembers members ts
        → Spells (gate n members) (word OutOf ∷ opening ∷ number n ∷ comma ∷ ts)

  -- The members of a gate, at least one, with commas between, and the closing parenthesis.
  pub data SpellsMembers : Trees → List Token → Type 0 where
    last_is : {t : Tree} {ts : List Token}
        → Spells t ts
        → SpellsMembers (more t none) (ts ++ closing ∷ [])
    more_are : {t : Tree} {members : Trees} {ts us : List Token}
        → Spells t ts
        → SpellsMembers members us
        → SpellsMembers (more t members) (ts ++ comma ∷ us)

-- The text spells the tree, within the limits.
pub record IsPolicy (text : List ℕ) (t : Tree) : Type 0 where
  pub tokens : List Token
  pub spaced : Spaced tokens text
  pub spells : Spells t tokens
  pub short : length text ≤ max_text_bytes
  pub few : leaves t ≤ max_principals
  pub flat : depth t ≤ max_nested_gates
