-- The trees that some text spells within the limits.
use Rattle.std.specs.Prelude.{ℕ, List}
use Rattle.policy.specs.Tree.{Tree}
use Rattle.policy.specs.Grammar.{IsPolicy}

-- Some text spells the tree.
pub record IsSpelled (tree : Tree) : Type 0 where
  pub text : List ℕ
  pub policy : IsPolicy text tree
