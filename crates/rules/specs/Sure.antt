-- Verdicts that are sure where only some of the earlier ones are known.
use Rattle.std.specs.Prelude.{◌≡◌, ℕ, ◌<◌, Bool, Option, Some}
use Rattle.rules.specs.Assignment.{Assignment}

-- the assignment agrees with what is known before i
abbrev pub Agrees : (ℕ → Option Bool) → ℕ → Assignment → Type 0
Agrees known i called = (h : ℕ) (b : Bool) → h < i → known h ≡ Some b → called h ≡ b

-- every assignment that agrees with what is known gives this verdict of candidate i
abbrev pub Sure : {V : Type 0} → (Assignment → ℕ → V) → (ℕ → Option Bool) → ℕ → V → Type 0
Sure verdict known i v = (called : Assignment) → Agrees known i called → verdict called i ≡ v
