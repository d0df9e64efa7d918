-- The parts of a canonical text that the code writes at once. No public contract cites this.
use Rattle.std.specs.Prelude.{ℕ, List, Bool, if◌then◌else◌, codes}
use Rattle.policy.specs.declared.tree.Principal.{Principal}
use Rattle.policy.specs.Token.{named, quoted}

abbrev pub principal_text : Principal → List ℕ
principal_text p = quoted 39 (named p.org p.role)

-- what stands behind a member
abbrev pub separator_text : Bool → List ℕ
separator_text goes_on = if goes_on then codes "," else codes ")"
