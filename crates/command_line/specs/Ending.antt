-- How a call ends before its work is done, from what the files hold and the system refuses.
use Rattle.std.specs.Prelude.{◌≡◌, ℕ, List, [], ◌∷◌, Option, Result, Ok, Err}
use Rattle.cli_words.specs.declared.command.Asked.{Asked}
use Rattle.cli_words.specs.declared.command.Asked.TheVariants as asks
use Rattle.command_files.specs.declared.fault.Fault.{Fault}
use Rattle.command_files.specs.Failing.{EndsBefore, InputsFail}
use Rattle.command_files.specs.Status.{status_of}
use Rattle.ledger_commands.specs.Failing.{DefinitionFails, DraftFails, KeyedFails, ScanFails, ShowFails}

-- Unless standard output failed or memory ran out, a word or a file is at fault, and nothing was printed. Of `explain` and `session` nothing is said.
abbrev pub EndsEarly : (Holds : List ℕ → List ℕ → Type 0) → (Refuses RefusesWrite : List ℕ → Type 0) → Asked → (before now : Option (List ℕ)) → Fault → Type 0
EndsEarly Holds Refuses RefusesWrite (asks.Draft words) before now fault = EndsBefore (DraftFails Holds Refuses RefusesWrite words) before now fault
EndsEarly Holds Refuses RefusesWrite (asks.Run words) before now fault = EndsBefore (InputsFail Holds Refuses words.paths) before now fault
EndsEarly Holds Refuses RefusesWrite (asks.Get words) before now fault = EndsBefore (KeyedFails Holds Refuses words) before now fault
EndsEarly Holds Refuses RefusesWrite (asks.Scan words) before now fault = EndsBefore (ScanFails Holds Refuses words) before now fault
EndsEarly Holds Refuses RefusesWrite (asks.History words) before now fault = EndsBefore (KeyedFails Holds Refuses words) before now fault
EndsEarly Holds Refuses RefusesWrite (asks.Definition words) before now fault = EndsBefore (DefinitionFails Holds Refuses words) before now fault
EndsEarly Holds Refuses RefusesWrite (asks.Conflicts words) before now fault = EndsBefore (InputsFail Holds Refuses words.paths) before now fault
EndsEarly Holds Refuses RefusesWrite (asks.Explain words) before now fault = Unit {0}
EndsEarly Holds Refuses RefusesWrite (asks.Show words) before now fault = EndsBefore (ShowFails Holds Refuses words) before now fault
EndsEarly Holds Refuses RefusesWrite (asks.Session words) before now fault = Unit {0}

-- The process ends with the status of such a fault.
pub record EndsWith (Holds : List ℕ → List ℕ → Type 0) (Refuses RefusesWrite : List ℕ → Type 0) (asked : Asked) (before : Option (List ℕ)) (status : ℕ) (now : Option (List ℕ)) : Type 0 where
  pub fault : Fault
  pub is_status : status ≡ status_of fault
  pub early : EndsEarly Holds Refuses RefusesWrite asked before now fault

-- ---- a step between these and the code

-- it is the first fault among what was found
abbrev pub IsFirst : Fault → List (Result (List ℕ) Fault) → Type 0
IsFirst fault [] = ⊥
IsFirst fault (Ok bytes ∷ found) = IsFirst fault found
IsFirst fault (Err first ∷ found) = first ≡ fault
