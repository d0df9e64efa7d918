-- What is at fault where a command ends before it has printed anything.
use Rattle.std.proofs.Common.{ℕ, List, Option, Some, None, IfSome}
use Rattle.std.proofs.KnownBytes.{Keeps-refl}
use Rattle.std.specs.Io.KnownBytes.{Keeps}
use Rattle.command_files.specs.declared.fault.Fault.{Fault}
use Rattle.command_files.specs.Failing.{AtFault, Because, EndsBefore, at_fault}

pub ends_before : (P Q : AtFault → Type 0) → ((what : AtFault) → P what → Q what) → (before now : Option (List ℕ)) (fault : Fault) → EndsBefore P before now fault → EndsBefore Q before now fault
ends_before P Q f before now fault = by (at_fault fault)
  where
    by : (o : Option AtFault) → IfSome o (λ what. P what × Keeps before now) → IfSome o (λ what. Q what × Keeps before now)
    by None h = h
    by (Some what) h = (f what h.0, h.1)

-- where nothing was printed
pub nothing_printed : (P : AtFault → Type 0) (before : Option (List ℕ)) (fault : Fault) → Because P fault → EndsBefore P before before fault
nothing_printed P before fault = by (at_fault fault)
  where
    by : (o : Option AtFault) → IfSome o P → IfSome o (λ what. P what × Keeps before before)
    by None h = h
    by (Some what) h = (h, Keeps-refl before)
