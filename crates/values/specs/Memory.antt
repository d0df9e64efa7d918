-- Answers that want of memory may take the place of.
use Rattle.std.specs.Prelude.{◌≡◌, ◌⊎◌, Result, Err}

-- the answer is the one that is wanted, or this error
abbrev pub GivesUnless : {T E : Type 0} → E → Result T E → Result T E → Type 0
GivesUnless memory answer wanted = (answer ≡ wanted) ⊎ (answer ≡ Err memory)
