-- What is at fault where a command ends before it has printed anything: a word, which is looked at first, or a file.
use Rattle.std.specs.Prelude.{◌≡◌, ◌⊎◌, ◌+◌, ◌<◌, ◌^◌, ℕ, false, List, Option, Some, None, Err}
use Rattle.std.specs.Str.{IsUtf8}
use Rattle.text_lines.specs.Utf8.{first_bad_line}
use Rattle.text_lines.specs.Words.{word_bytes}
use Rattle.values.specs.Key.{is_key}
use Rattle.values.specs.Name.{is_name}
use Rattle.block.specs.declared.block.Header.{Header}
use Rattle.channel.specs.Configuration.{Configuration}
use Rattle.key_book.specs.Entry.{Entry}
use Rattle.drafts.specs.DraftBlock.{drafted}
use Rattle.drafts.specs.declared.fault.DraftFault.TheVariants.{Line}
use Rattle.cli_words.specs.declared.definition.DefinitionQuery.{DefinitionQuery}
use Rattle.cli_words.specs.declared.draft.Draft.{Draft}
use Rattle.cli_words.specs.declared.keyed.KeyedQuery.{KeyedQuery}
use Rattle.cli_words.specs.declared.paths.ConfigurationPaths.{ConfigurationPaths}
use Rattle.cli_words.specs.declared.scan.RangeWords.{RangeWords}
use Rattle.cli_words.specs.declared.scan.Scan.{Scan}
use Rattle.cli_words.specs.declared.show.Show.{Show}
use Rattle.command_files.specs.Failing.{AtFault, ConfigurationFails, FilesFail, InputsFail, IsUnread, bad_word, line, not_a_block, unwritable}
use Rattle.command_files.specs.Reading.{HoldConfiguration}
use Rattle.ledger_commands.specs.Drafting.{IsDraftOf, IsHeaderOf, IsPrevious}

-- `get` and `history`: the namespace is no name, or the word of the key spells no key
abbrev pub IsNoKey : KeyedQuery → AtFault → Type 0
IsNoKey words what = (what ≡ bad_word) × ((is_name words.namespace.now ≡ false) ⊎ ((bytes : List ℕ) → word_bytes words.key.now ≡ Some bytes → is_key bytes ≡ false))

abbrev pub KeyedFails : (List ℕ → List ℕ → Type 0) → (List ℕ → Type 0) → KeyedQuery → AtFault → Type 0
KeyedFails Holds Refuses words what = IsNoKey words what ⊎ InputsFail Holds Refuses words.paths what

-- `definition`: the chaincode is no name
abbrev pub DefinitionFails : (List ℕ → List ℕ → Type 0) → (List ℕ → Type 0) → DefinitionQuery → AtFault → Type 0
DefinitionFails Holds Refuses words what = ((what ≡ bad_word) × (is_name words.namespace.now ≡ false)) ⊎ InputsFail Holds Refuses words.paths what

-- `scan`: the namespace is no name, or a bound is no word
abbrev pub AreNoBounds : RangeWords → AtFault → Type 0
AreNoBounds words what = (what ≡ bad_word) × ((is_name words.namespace.now ≡ false) ⊎ (word_bytes words.start.now ≡ None) ⊎ (word_bytes words.end.now ≡ None))

abbrev pub range_of : Scan → RangeWords
range_of words = record { namespace = words.namespace; start = words.start; end = words.end; limit = words.limit }

abbrev pub ScanFails : (List ℕ → List ℕ → Type 0) → (List ℕ → Type 0) → Scan → AtFault → Type 0
ScanFails Holds Refuses words what = AreNoBounds (range_of words) what ⊎ InputsFail Holds Refuses words.paths what

-- The files of the channel and the keys, if the words name both.
abbrev pub KnownFails : (List ℕ → List ℕ → Type 0) → (List ℕ → Type 0) → Option ConfigurationPaths → AtFault → Type 0
KnownFails Holds Refuses None what = ⊥
KnownFails Holds Refuses (Some paths) what = ConfigurationFails Holds Refuses paths what

-- `show`: those, or else the blocks' files
abbrev pub ShowFails : (List ℕ → List ℕ → Type 0) → (List ℕ → Type 0) → Show → AtFault → Type 0
ShowFails Holds Refuses words what =
    KnownFails Holds Refuses words.configuration what ⊎ FilesFail (λ path. Holds path.now) (λ path. IsUnread (Refuses path.now) path.now) words.blocks.items what

-- The bytes spell no block, or its number is the last one.
abbrev pub HasNoNext : List ℕ → Type 0
HasNoNext bytes = (header : Header) → IsHeaderOf bytes header → header.number + 1 < 2 ^ 64 → ⊥

-- `draft`: the file of the block before, if there is one
abbrev pub PreviousFails : {X : Type 0} → (X → List ℕ → Type 0) → (X → AtFault → Type 0) → (X → List ℕ) → Option X → AtFault → Type 0
PreviousFails Holds Fails path_of None what = ⊥
PreviousFails Holds Fails path_of (Some path) what = Fails path what ⊎ ((what ≡ not_a_block (path_of path)) × ((bytes : List ℕ) × Holds path bytes × HasNoNext bytes))

-- The bytes of the script aren't UTF-8, or its text has a fault, first in this line.
abbrev pub ScriptFails : Draft → List Entry → List ℕ → Option Header → List ℕ → AtFault → Type 0
ScriptFails words keys channel previous script what =
    (¬ (IsUtf8 script) × (what ≡ line words.script.now (first_bad_line script)))
    ⊎ (IsUtf8 script × ((n : ℕ) × (drafted keys channel words.version previous script ≡ Err (Line n)) × (what ≡ line words.script.now n)))

pub record NoScript (Holds : List ℕ → List ℕ → Type 0) (words : Draft) (what : AtFault) : Type 0 where
  pub channel : Configuration
  pub keys : List Entry
  pub configured : HoldConfiguration (Holds words.configuration.channel.now) (Holds words.configuration.keys.now) channel keys
  pub previous : Option Header
  pub is_previous : IsPrevious (λ path. Holds path.now) words.after previous
  pub script : List ℕ
  pub held : Holds words.script.now script
  pub fails : ScriptFails words keys channel.name previous script what

-- The files are read in this order.
abbrev pub NoDraft : (Holds : List ℕ → List ℕ → Type 0) → (Refuses : List ℕ → Type 0) → Draft → AtFault → Type 0
NoDraft Holds Refuses words what =
    ConfigurationFails Holds Refuses words.configuration what
    ⊎ PreviousFails (λ path. Holds path.now) (λ path. IsUnread (Refuses path.now) path.now) (λ path. path.now) words.after what
    ⊎ IsUnread (Refuses words.script.now) words.script.now what
    ⊎ NoScript Holds words what

-- There is no block, or else its file can't be written.
abbrev pub DraftFails : (Holds : List ℕ → List ℕ → Type 0) → (Refuses RefusesWrite : List ℕ → Type 0) → Draft → AtFault → Type 0
DraftFails Holds Refuses RefusesWrite words what =
    NoDraft Holds Refuses words what ⊎ ((what ≡ unwritable words.out.now) × RefusesWrite words.out.now × ((block : List ℕ) × IsDraftOf Holds words block))
