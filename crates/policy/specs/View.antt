-- What an expression of the code stands for.
use Rattle.std.specs.Prelude.{List, [], ◌∷◌}
use Rattle.policy.specs.declared.tree.Node.{Node}
use Rattle.policy.specs.declared.tree.Node.TheVariants.{Signed, Gate}
use Rattle.policy.specs.Tree.{Tree, Trees, principal, gate, none, more}

abbrev pub trees : List Tree → Trees
trees [] = none
trees (t ∷ ts) = more t (trees ts)

-- one level, whose members are trees already
abbrev pub tree : Node → Tree
tree (Signed p) = principal p.org p.role
tree (Gate threshold members) = gate threshold (trees members.items)
