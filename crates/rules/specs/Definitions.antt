-- The policies of chaincodes, which updates replace.
use Rattle.std.specs.Prelude.{ℕ, List, [], ◌∷◌, if◌then◌else◌, Option, Some, None}
use Rattle.std.specs.FinMap.{insert}
use Rattle.std.specs.Str.{bytes_eq}
use Rattle.transaction.specs.declared.item.Item.{Item}
use Rattle.transaction.specs.declared.item.Item.TheVariants as item
use Rattle.policy.specs.Meaning.{policy_of}
use Rattle.policy.specs.Tree.{Tree}
use Rattle.policy.specs.Policies.{Policies}

-- with these in the place of those that were there, one after the other
unfoldable pub with_definitions : Policies → List (List ℕ × Tree) → Policies
with_definitions definitions [] = definitions
with_definitions definitions (d ∷ ds) = with_definitions (insert definitions d.0 d.1) ds

-- the policy that the items of a block give a chaincode, where they are valid: that of an update of it, where this is the only item
abbrev pub given : List (Option Item) → List ℕ → Option Tree
given (Some (item.Update u) ∷ []) chaincode = if bytes_eq chaincode u.namespace then policy_of u.policy else None
given _ chaincode = None
