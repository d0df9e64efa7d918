-- What the reader answers, beside what reading gives: for private contracts alone.
use Rattle.std.specs.Prelude.{Result, Ok, Err, ◌≡◌}
use Rattle.policy.specs.declared.fault.PolicyFault.{PolicyFault}
use Rattle.policy.specs.declared.fault.PolicyFault.TheVariants.{Memory, TooLarge, Syntax, Role, Threshold, TooDeep}
use Rattle.policy.specs.declared.reader.Asked.{Asked}
use Rattle.policy.specs.declared.reader.Asked.TheVariants.{All, Any, Number}
use Rattle.policy.specs.Fault.{Fault, syntax_fault, role_fault, threshold_fault, depth_fault, size_fault}
use Rattle.policy.specs.Reading as reading

abbrev pub asked : Asked → reading.Asked
asked All = reading.every
asked Any = reading.one
asked (Number n) = reading.at_least n

-- The fault that reading gives is of this kind, unless memory ran out.
abbrev pub Refuses : {Y : Type 0} → PolicyFault → Result Y Fault → Type 0
Refuses Memory read = Unit {0}
Refuses TooLarge read = read ≡ Err size_fault
Refuses (Syntax at) read = read ≡ Err syntax_fault
Refuses (Role at) read = read ≡ Err role_fault
Refuses (Threshold at) read = read ≡ Err threshold_fault
Refuses (TooDeep at) read = read ≡ Err depth_fault

-- What a function returned, seen by view, is what reading gives, unless memory ran out.
abbrev pub Gives : {X Y : Type 0} → (X → Y) → Result X PolicyFault → Result Y Fault → Type 0
Gives view (Ok x) read = read ≡ Ok (view x)
Gives view (Err e) read = Refuses e read
