-- Blocks of which the commit hash covers the same, and byte strings that SHA-256 distinguishes.
use Rattle.std.specs.Prelude.{◌≡◌, ℕ, List, map, option_map}
use Rattle.sha2.specs.Sha256.{sha256}
use Rattle.rules.specs.Differing.{differing}
use Rattle.rules.specs.CommitBytes.{BlockCommit, told_change, told_definition}

-- the same version, number, flags, rows that differ and replaced definition, with each policy as its canonical text
pub record AreToldAlike (a b : BlockCommit) : Type 0 where
  pub version : a.version ≡ b.version
  pub number : a.number ≡ b.number
  pub flags : a.flags ≡ b.flags
  pub changes : map told_change (differing a.before a.after) ≡ map told_change (differing b.before b.after)
  pub definition : option_map told_definition a.definition ≡ option_map told_definition b.definition

-- no collision: the two have one hash only if they are one
abbrev pub DontCollide : List ℕ → List ℕ → Type 0
DontCollide x y = sha256 x ≡ sha256 y → x ≡ y
