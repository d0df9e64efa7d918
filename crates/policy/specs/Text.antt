-- The canonical text of a tree.
use Rattle.std.specs.Prelude.{ℕ, ◌==◌, List, [], ◌++◌, if◌then◌else◌, codes}
use Rattle.std.specs.Fmt.{decimal}
use Rattle.policy.specs.Tree.{Tree, Trees, principal, gate, none, more}
use Rattle.policy.specs.Token.{named, quoted}
use Rattle.policy.specs.Grammar.{count}

-- how a gate begins that asks for n of its members
abbrev pub head_text : ℕ → ℕ → List ℕ
head_text n members =
    if n == 1 then codes "OR("
    else if n == members then codes "AND("
    else codes "OutOf(" ++ decimal n ++ codes ","

-- what stands behind a member: a comma before another one, or the closing parenthesis
abbrev pub separator : Trees → List ℕ
separator none = codes ")"
separator (more t ts) = codes ","

abbrev mutual
  pub text_of : Tree → List ℕ
  text_of (principal org role) = quoted 39 (named org role)
  text_of (gate n members) = head_text n (count members) ++ texts_of members

  pub texts_of : Trees → List ℕ
  texts_of none = []
  texts_of (more t ts) = text_of t ++ separator ts ++ texts_of ts
