-- Each member of a gate is smaller than the gate.
use Rattle.std.specs.Prelude.{◌+◌, ◌≤◌, List, [], ◌∷◌, max}
use Rattle.std.proofs.Common.{arith}
use denote.Param.Weighed.{most}
use Rattle.policy.specs.declared.tree.Node.{Node}
use Rattle.policy.specs.declared.tree.Node.TheVariants.{Signed, Gate}
use Rattle.policy.specs.declared.tree.Expression.TheDeep.{deep-Node}
use Rattle.policy.specs.Tree.{Tree, size_of, size_of_all}
use Rattle.policy.specs.View.{trees, tree}

pub most_le : (ts : List Tree) → most (λ t. size_of t + 1) ts ≤ size_of_all (trees ts) + 1
most_le [] = omega arith
most_le (t ∷ ts) = omega (arith, most_le ts)

pub size_falls : (n : Node) → max (deep-Node n) 0 ≤ size_of (tree n)
size_falls (Signed p) = omega arith
size_falls (Gate n members) = omega (arith, most_le members.items)
