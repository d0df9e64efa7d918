-- The policies of chaincodes.
use Rattle.std.specs.Prelude.{ℕ, List, map, Vec}
use Rattle.std.specs.declared.alloc.Global.{Global}
use Rattle.std.specs.Coded.{Coded, coded_list, coded_ℕ}
use Rattle.std.specs.FinMap.{FinMap, code}
use Rattle.values.specs.Order.{bytes_cmp}
use Rattle.policy.specs.Tree.{Tree, tree_code}

-- a map from the bytes of a chaincode's name to the tree of its policy
abbrev pub Policies : Type 0
Policies = FinMap bytes_cmp Tree

abbrev pub policies_code : Coded Policies
policies_code = code (coded_list coded_ℕ) tree_code

-- the entries of the code's map, under the bytes of their names
abbrev pub by_name : List (Vec ℕ Global × Tree) → List (List ℕ × Tree)
by_name entries = map (λ e. (e.0.items, e.1)) entries
