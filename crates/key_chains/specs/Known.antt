-- The verdicts of a block's candidates, as far as they are known.
use Rattle.std.specs.Prelude.{◌≡◌, ℕ, Bool, Option, Some, option_map}
use Rattle.rules.specs.declared.flag.Flag.{Flag}
use Rattle.rules.specs.Flags.{is_valid}

pub record Known : Type 0 where
  pub endorsed : ℕ → Option Bool
  pub flag : ℕ → Option Flag

-- a known cell stays
pub record Grows (old new : Known) : Type 0 where
  pub endorsed : (h : ℕ) (b : Bool) → old.endorsed h ≡ Some b → new.endorsed h ≡ Some b
  pub flag : (h : ℕ) (f : Flag) → old.flag h ≡ Some f → new.flag h ≡ Some f

-- a known flag counts as yes exactly where it is valid
abbrev pub valid_in : Known → ℕ → Option Bool
valid_in known h = option_map is_valid (known.flag h)
