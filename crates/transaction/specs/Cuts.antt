-- Bytes that end in others. No public contract cites this.
use Rattle.std.specs.Prelude.{◌≡◌, ℕ, List, ◌++◌, length}

pub record EndsIn (ending bytes : List ℕ) : Type 0 where
  pub front : List ℕ
  pub parts : bytes ≡ front ++ ending

-- the middle one of three parts, of which the first has this length
pub record HasBehind (start : ℕ) (middle bytes : List ℕ) : Type 0 where
  pub front : List ℕ
  pub rest : List ℕ
  pub len : length front ≡ start
  pub parts : bytes ≡ front ++ (middle ++ rest)
