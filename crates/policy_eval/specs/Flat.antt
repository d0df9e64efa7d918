-- Gates without gates in them.
use Rattle.policy.specs.Tree.{Trees, principal, gate, none, more}

-- the members are principals alone
abbrev pub ArePrincipals : Trees → Type 0
ArePrincipals none = Unit {0}
ArePrincipals (more (principal org role) members) = ArePrincipals members
ArePrincipals (more (gate threshold inner) members) = ⊥
