-- Operations by their kind. No public contract cites this.
use Rattle.std.specs.Prelude.{ℕ, Bool, true, false, ◌&&◌, ◌||◌, not, List, [], ◌∷◌, if◌then◌else◌, Option, Some, None}
use Rattle.key_chains.specs.declared.operation.Kind.{Kind}
use Rattle.key_chains.specs.declared.operation.Kind.TheVariants.{Value, Delete, Policy}
use Rattle.key_chains.specs.declared.operation.Operation.{Operation}

abbrev pub is_policy : Kind → Bool
is_policy Policy = true
is_policy Value = false
is_policy Delete = false

-- it is of a valid candidate, and sets the key's row, which is there behind it or isn't
abbrev pub sets : (ℕ → Bool) → Bool → Operation → Bool
sets valid there o = valid o.tx && (there || not (is_policy o.kind))

-- of operations on a key, the newest first, the first that sets its row, which is there behind all of them or isn't
abbrev pub last_setter : (ℕ → Bool) → Bool → List Operation → Option ℕ
last_setter valid there [] = None
last_setter valid there (o ∷ rest) = if sets valid there o then Some o.tx else last_setter valid there rest
