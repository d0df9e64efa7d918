-- What writing a field at the end does. No public contract cites this.
use Rattle.std.specs.Prelude.{◌≡◌, ℕ, List, ◌++◌, Result, Ok, Err}
use Rattle.transaction.specs.declared.fault.EncodeFault.{EncodeFault}
use Rattle.transaction.specs.declared.fault.EncodeFault.TheVariants.{TooLarge, Memory}

-- the field, which is within its limits, was written behind the old bytes; or it isn't within them; or memory ran out
abbrev pub Puts : {T : Type 0} → Result T EncodeFault → List ℕ → List ℕ → List ℕ → Type 0 → Type 0
Puts (Ok x) old new field Fits = (new ≡ old ++ field) × Fits
Puts (Err TooLarge) old new field Fits = ¬ Fits
Puts (Err Memory) old new field Fits = Unit {0}
