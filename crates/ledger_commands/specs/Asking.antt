-- What is printed of a ledger after its blocks, from what the files hold.
use Rattle.std.specs.Prelude.{◌≡◌, ℕ, if◌then◌else◌, List, [], ◌∷◌, ◌++◌, map, Option, Some, None, Result, Ok, Err, IsSome}
use Rattle.std.specs.FinMap.{get}
use Rattle.std.specs.List.{flat_map}
use Rattle.std.specs.Io.KnownBytes.{Appends}
use Rattle.text_lines.specs.Words.{word_bytes}
use Rattle.channel.specs.Configuration.{Configuration}
use Rattle.key_book.specs.Book.{accepts}
use Rattle.key_book.specs.Entry.{Entry}
use Rattle.rules.specs.declared.answer.Accepted.{Accepted}
use Rattle.rules.specs.declared.answer.Refused.{Refused}
use Rattle.rules.specs.declared.row.Row.{Row}
use Rattle.rules.specs.Answers.{RangeAnswer, history_answer, range_answer, row_answer}
use Rattle.policy_eval.specs.Accepts.{Accepts}
use Rattle.rules.specs.Chain.{Chain, Submission}
use Rattle.rules.specs.World.{World, empty_world, height_of}
use Rattle.cli_lines.specs.BlockLines.{refusal_of}
use Rattle.cli_lines.specs.RowLines.{absent_line, definition_line, entry_line, height_line, more_line, row_line}
use Rattle.cli_values.specs.declared.format.Format.{Format}
use Rattle.cli_words.specs.declared.keyed.KeyedQuery.{KeyedQuery}
use Rattle.cli_words.specs.declared.paths.LedgerPaths.{LedgerPaths}
use Rattle.cli_words.specs.declared.scan.Scan.{Scan}
use Rattle.command_files.specs.Reading.{AreHeld, HoldConfiguration}

-- all handed in with one verifier
abbrev pub submissions : Accepts → List (List ℕ) → List Submission
submissions accepts blocks = map (λ bytes. record { bytes = bytes; accepts = accepts }) blocks

-- 1 where a block is refused, else 0
abbrev pub status_for : List (Result Accepted Refused) → ℕ
status_for [] = 0
status_for (Ok accepted ∷ answers) = status_for answers
status_for (Err refused ∷ answers) = 1

-- none of the answers is out of memory
abbrev pub AreTold : List (Result Accepted Refused) → Type 0
AreTold [] = Unit {0}
AreTold (Ok accepted ∷ answers) = AreTold answers
AreTold (Err refused ∷ answers) = IsSome (refusal_of refused) × AreTold answers

-- From the empty world of the channel, these strings of bytes are taken one after the other, each by one step of the rules, with
-- signatures by these keys. This is the ledger after them, and the process ends with the status.
pub record IsBehind (channel : Configuration) (keys : List Entry) (blocks : List (List ℕ)) (world : World) (status : ℕ) : Type 0 where
  pub answers : List (Result Accepted Refused)
  pub chain : Chain channel (empty_world channel.definitions) (submissions (accepts keys) blocks) answers world
  pub told : AreTold answers
  pub is_status : status ≡ status_for answers

-- The ledger after the blocks of files with these paths, if files hold what `Holds` says.
pub record IsLedgerOf (Holds : List ℕ → List ℕ → Type 0) (paths : LedgerPaths) (world : World) (status : ℕ) : Type 0 where
  pub channel : Configuration
  pub keys : List Entry
  pub configured : HoldConfiguration (Holds paths.configuration.channel.now) (Holds paths.configuration.keys.now) channel keys
  pub blocks : List (List ℕ)
  pub held : AreHeld (λ path. Holds path.now) paths.blocks.items blocks
  pub behind : IsBehind channel keys blocks world status

-- After what the output held before, the height of that ledger and then what is printed of it; and the status.
pub record Answers (Holds : List ℕ → List ℕ → Type 0) (paths : LedgerPaths) (tells : Format → World → List ℕ → Type 0) (before : Option (List ℕ)) (status : ℕ) (now : Option (List ℕ)) : Type 0 where
  pub world : World
  pub of_files : IsLedgerOf Holds paths world status
  pub text : List ℕ
  pub told : tells paths.format world text
  pub written : Appends before now (height_line paths.format (height_of world) ++ text)

-- ---- the questions

abbrev pub row_or_absent : List ℕ → Format → Option Row → List ℕ
row_or_absent key format (Some row) = row_line format key row
row_or_absent key format None = absent_line format

-- `get`
abbrev pub IsRow : List ℕ → List ℕ → Format → World → List ℕ → Type 0
IsRow namespace key format w text = text ≡ row_or_absent key format (row_answer w (namespace, key))

-- `history`
abbrev pub IsHistory : List ℕ → List ℕ → Format → World → List ℕ → Type 0
IsHistory namespace key format w text = text ≡ flat_map (entry_line format) (history_answer w (namespace, key))

-- `scan`: a line for each row and, if some are left, one that says so
abbrev pub rows_text : Format → RangeAnswer → List ℕ
rows_text format answer = flat_map (λ r. row_line format r.0.1 r.1) answer.rows ++ (if answer.more then more_line format else [])

abbrev pub AreRows : List ℕ → List ℕ → List ℕ → ℕ → Format → World → List ℕ → Type 0
AreRows namespace start end limit format w text = text ≡ rows_text format (range_answer w namespace start end limit)

-- `definition`
abbrev pub IsDefinition : List ℕ → Format → World → List ℕ → Type 0
IsDefinition chaincode format w text = text ≡ definition_line format (get w.definitions chaincode)

-- `get` or `history` on these words, whose key's word spells a key
pub record AnswersKey (Holds : List ℕ → List ℕ → Type 0) (words : KeyedQuery) (tells : List ℕ → List ℕ → Format → World → List ℕ → Type 0) (before : Option (List ℕ)) (status : ℕ) (now : Option (List ℕ)) : Type 0 where
  pub key : List ℕ
  pub spelled : word_bytes words.key.now ≡ Some key
  pub answers : Answers Holds words.paths (tells words.namespace.now key) before status now

-- `scan` on these words, of which two spell the bounds
pub record AnswersScan (Holds : List ℕ → List ℕ → Type 0) (words : Scan) (before : Option (List ℕ)) (status : ℕ) (now : Option (List ℕ)) : Type 0 where
  pub start : List ℕ
  pub end : List ℕ
  pub spelled_start : word_bytes words.start.now ≡ Some start
  pub spelled_end : word_bytes words.end.now ≡ Some end
  pub answers : Answers Holds words.paths (AreRows words.namespace.now start end words.limit) before status now

-- ---- a step between these and the code

pub record AnswersFrom (channel : Configuration) (keys : List Entry) (blocks : List (List ℕ)) (tells : Format → World → List ℕ → Type 0) (format : Format) (before : Option (List ℕ)) (status : ℕ) (now : Option (List ℕ)) : Type 0 where
  pub world : World
  pub behind : IsBehind channel keys blocks world status
  pub text : List ℕ
  pub told : tells format world text
  pub written : Appends before now (height_line format (height_of world) ++ text)
