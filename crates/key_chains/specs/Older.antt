-- The operations before a candidate. No public contract cites this.
use Rattle.std.specs.Prelude.{ℕ, suc, Option, Some, None, List, [], ◌∷◌, nat_lt, if◌then◌else◌}
use Rattle.key_chains.specs.declared.operation.Operation.{Operation}

-- how many entries a link may yet go through
abbrev pub links_left : Option ℕ → ℕ
links_left None = 0
links_left (Some n) = suc n

-- what is left of a list, the newest first, from the first operation before i on
abbrev pub older_than : ℕ → List Operation → List Operation
older_than i [] = []
older_than i (o ∷ os) = if nat_lt o.tx i then o ∷ os else older_than i os
