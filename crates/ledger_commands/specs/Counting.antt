-- What `conflicts` counts of the blocks that are submitted, and what it prints.
use Rattle.std.specs.Prelude.{◌≡◌, ℕ, nat_lt, Bool, true, false, List, [], ◌∷◌, ◌++◌, Option, Result, Ok, Err}
use Rattle.std.specs.Io.KnownBytes.{Appends}
use Rattle.channel.specs.Configuration.{Configuration}
use Rattle.policy_eval.specs.Accepts.{Accepts}
use Rattle.rules.specs.declared.answer.Accepted.{Accepted}
use Rattle.rules.specs.declared.answer.Refused.{Refused}
use Rattle.rules.specs.Step.{Step}
use Rattle.rules.specs.World.{World, empty_world, height_of}
use Rattle.key_book.specs.Book.{accepts}
use Rattle.key_book.specs.Entry.{Entry}
use Rattle.cli_words.specs.declared.conflict_counts.ConflictCounts.{ConflictCounts}
use Rattle.command_files.specs.Reading.{AreHeld, HoldConfiguration}
use Rattle.reasons.specs.declared.reason.Reason.{Reason}
use Rattle.conflicts.specs.Tally.{Counts}
use Rattle.ledger.specs.NextReasons.{AreNextReasons}
use Rattle.cli_values.specs.declared.format.Format.{Format}
use Rattle.cli_lines.specs.ConflictLines.{IsReport}
use Rattle.ledger_commands.specs.Asking.{AreTold, status_for}
use Rattle.ledger_commands.specs.Handing.{EndsWith}
use Rattle.ledger_commands.specs.declared.conflict_counts.CountedLedger.{CountedLedger}

-- none of an early block, else these
abbrev pub NoneWhereEarly : Bool → Type 0 → List Reason → Type 0
NoneWhereEarly true AreThese reasons = reasons ≡ []
NoneWhereEarly false AreThese reasons = AreThese

-- These are the reasons of what was answered so: none of a refused string, nor of a block before the first that counts.
abbrev pub AreCounted : Configuration → Accepts → ℕ → World → List ℕ → Result Accepted Refused → List Reason → Type 0
AreCounted channel accepts from w bytes (Ok accepted) reasons = NoneWhereEarly (nat_lt (height_of w) from) (AreNextReasons channel accepts w bytes reasons) reasons
AreCounted channel accepts from w bytes (Err refused) reasons = reasons ≡ []

-- These strings of bytes are handed in one after the other and get these answers; and these are the reasons of the transactions of
-- all accepted blocks, from the block of a number on.
abbrev pub ReasonsOfAll : Configuration → Accepts → ℕ → World → List (List ℕ) → List (Result Accepted Refused) → List Reason → Type 0
ReasonsOfAll channel accepts from w [] [] reasons = reasons ≡ []
ReasonsOfAll channel accepts from w (bytes ∷ more) (answer ∷ answers) reasons =
    (mid : World) × (first rest : List Reason) × Step channel accepts w bytes answer mid
    × AreCounted channel accepts from w bytes answer first × ReasonsOfAll channel accepts from mid more answers rest × (reasons ≡ first ++ rest)
ReasonsOfAll channel accepts from w [] (answer ∷ answers) reasons = ⊥
ReasonsOfAll channel accepts from w (bytes ∷ more) [] reasons = ⊥

-- To an output that held before, if that is known, the report of these reasons was written; and the process ends with the status.
pub record IsTold (format : Format) (channel : Configuration) (accepts : Accepts) (from : ℕ) (w : World) (blocks : List (List ℕ)) (top : ℕ) (before : Option (List ℕ)) (status : ℕ) (now : Option (List ℕ)) : Type 0 where
  pub answers : List (Result Accepted Refused)
  pub reasons : List Reason
  pub of_all : ReasonsOfAll channel accepts from w blocks answers reasons
  pub told : AreTold answers
  pub is_status : status ≡ status_for answers
  pub text : List ℕ
  pub report : IsReport format reasons top text
  pub written : Appends before now text

-- `conflicts` on these words, if files hold what `Holds` says.
pub record Reports (Holds : List ℕ → List ℕ → Type 0) (words : ConflictCounts) (before : Option (List ℕ)) (status : ℕ) (now : Option (List ℕ)) : Type 0 where
  pub channel : Configuration
  pub keys : List Entry
  pub configured : HoldConfiguration (Holds words.paths.configuration.channel.now) (Holds words.paths.configuration.keys.now) channel keys
  pub blocks : List (List ℕ)
  pub held : AreHeld (λ path. Holds path.now) words.paths.blocks.items blocks
  pub told : IsTold words.paths.format channel (accepts keys) words.from (empty_world channel.definitions) blocks words.top before status now

-- ---- a step between these and the code

-- what a string makes of a ledger and its tally, and what the process ends with for it
pub record CountedTakes (accepts : Accepts) (old : CountedLedger) (bytes : List ℕ) (status : ℕ) (new : CountedLedger) : Type 0 where
  pub answer : Result Accepted Refused
  pub own : List Reason
  pub step : Step old.ledger.channel accepts old.ledger.world bytes answer new.ledger.world
  pub are_own : AreCounted old.ledger.channel accepts old.from old.ledger.world bytes answer own
  pub same_channel : new.ledger.channel ≡ old.ledger.channel
  pub same_from : new.from ≡ old.from
  pub counted : (before : List Reason) → Counts before old.tally → Counts (before ++ own) new.tally
  pub ends : EndsWith answer status
