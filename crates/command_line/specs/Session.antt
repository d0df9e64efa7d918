-- How the lines of a session are answered. No public contract cites this.
use Rattle.std.specs.Prelude.{◌≡◌, ◌⊎◌, ℕ, List, ◌++◌, Option, Some, IfSome, IsSome, MatchResult, Result}
use Rattle.std.specs.Io.KnownBytes.{Appends, Keeps}
use Rattle.text_lines.specs.Words.{word_bytes}
use Rattle.policy_eval.specs.Accepts.{Accepts}
use Rattle.rules.specs.World.{World}
use Rattle.cli_lines.specs.SessionLines.{end_line, fault_line}
use Rattle.cli_values.specs.declared.format.Format.{Format}
use Rattle.cli_words.specs.declared.line.Query.{Query}
use Rattle.cli_words.specs.declared.line.RunWords.{RunWords}
use Rattle.command_files.specs.declared.fault.Fault.{Fault}
use Rattle.command_files.specs.Failing.{at_fault}
use Rattle.command_files.specs.Reading.{AreHeld}
use Rattle.commit.specs.Committing.{Committing}
use Rattle.ledger_commands.specs.Querying.{HasStatus, Tells}
use Rattle.command_line.specs.declared.committing.Committed.{Committed}
use Rattle.command_line.specs.declared.lines.Style.{Style}
use Rattle.command_line.specs.Handing.{AreHandedIn}

-- the file of the path that this word spells holds these bytes, if files hold what `Holds` says
pub record IsHeldAt (Holds : List ℕ → List ℕ → Type 0) (word bytes : List ℕ) : Type 0 where
  pub path : List ℕ
  pub spelled : word_bytes word ≡ Some path
  pub held : Holds path bytes

-- A fault was written, and the end of its answer, after what the output held before.
pub record IsFaulty (format : Format) (before now : Option (List ℕ)) : Type 0 where
  pub text : List ℕ
  pub status : ℕ
  pub printed : Appends before now (fault_line format text ++ end_line format status)

-- What is printed for a query of this ledger was written, and the end of its answer.
pub record IsAnswered (format : Format) (w : World) (query : Query) (before now : Option (List ℕ)) : Type 0 where
  pub text : List ℕ
  pub told : Tells query format w text
  pub status : ℕ
  pub is_status : HasStatus query status
  pub printed : Appends before now (text ++ end_line format status)

-- The blocks of these words were handed in, one after the other, and what `run` prints for them was written.
pub record AreCommitted (accepts : Accepts) (Holds : List ℕ → List ℕ → Type 0) (format : Format) (words : RunWords) (old : Committing) (before : Option (List ℕ)) (status : ℕ) (new : Committing) (now : Option (List ℕ)) : Type 0 where
  pub blocks : List (List ℕ)
  pub held : AreHeld (λ word. IsHeldAt Holds word.now) words.blocks.items blocks
  pub committed : Committed
  pub handed : AreHandedIn accepts (record { format = format; hashes = words.hashes }) old before blocks committed new now
  pub is_status : status ≡ committed.status

-- And the end of the answer.
pub record IsRun (accepts : Accepts) (Holds : List ℕ → List ℕ → Type 0) (format : Format) (words : RunWords) (old : Committing) (before : Option (List ℕ)) (new : Committing) (now : Option (List ℕ)) : Type 0 where
  pub status : ℕ
  pub between : Option (List ℕ)
  pub committed : AreCommitted accepts Holds format words old before status new between
  pub printed : Appends between now (end_line format status)

-- ---- a step between these and the code

-- If something is at fault but output and memory, this holds.
abbrev pub IfAtFault : Type 0 → Fault → Type 0
IfAtFault P fault = IfSome (at_fault fault) (λ what. P)

-- The lines that were kept were written, and the end of the answer; or the fault in their place.
abbrev pub IsEnded : Format → Result ℕ Fault → List ℕ → Option (List ℕ) → Option (List ℕ) → Type 0
IsEnded format ended kept before now =
    MatchResult ended (λ status. Appends before now (kept ++ end_line format status)) (λ fault. IsSome (at_fault fault) × IsFaulty format before now)
