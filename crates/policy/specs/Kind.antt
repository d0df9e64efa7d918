-- The kind of a fault that is answered.
use Rattle.std.specs.Prelude.{◌≡◌, ◌⊎◌, Option, Some, None}
use Rattle.policy.specs.declared.fault.PolicyFault.{PolicyFault}
use Rattle.policy.specs.declared.fault.PolicyFault.TheVariants.{Memory, TooLarge, Syntax, Role, Threshold, TooDeep}
use Rattle.policy.specs.Fault.{Fault, syntax_fault, role_fault, threshold_fault, depth_fault, size_fault}

-- Want of memory is no fault of the text.
abbrev pub kind_of : PolicyFault → Option Fault
kind_of TooLarge = Some size_fault
kind_of (Syntax at) = Some syntax_fault
kind_of (Role at) = Some role_fault
kind_of (Threshold at) = Some threshold_fault
kind_of (TooDeep at) = Some depth_fault
kind_of Memory = None

-- The fault is of this kind, unless memory ran out.
abbrev pub IsOfKind : Fault → PolicyFault → Type 0
IsOfKind f e = (kind_of e ≡ Some f) ⊎ (e ≡ Memory)
