-- What is at fault where a command ends before its work is done.
use Rattle.std.specs.Prelude.{◌≡◌, ◌⊎◌, ℕ, List, [], ◌∷◌, Option, Some, None, IfSome, Err}
use Rattle.std.specs.Str.{IsUtf8}
use Rattle.std.specs.Io.KnownBytes.{Keeps}
use Rattle.text_lines.specs.Utf8.{first_bad_line}
use Rattle.channel.specs.Configuration.{Configuration}
use Rattle.channel.specs.Fault as channel
use Rattle.channel.specs.Text.{configuration_of}
use Rattle.key_book.specs.BookText.{book_of}
use Rattle.key_book.specs.declared.fault.KeyBookFault.TheVariants as key_book
use Rattle.key_book.specs.Entry.{Entry}
use Rattle.cli_words.specs.declared.paths.ConfigurationPaths.{ConfigurationPaths}
use Rattle.cli_words.specs.declared.paths.LedgerPaths.{LedgerPaths}
use Rattle.cli_values.specs.declared.word_fault.WordFault.{WordFault}
use Rattle.cli_values.specs.declared.word_fault.WordFault.TheVariants as word_fault
use Rattle.command_files.specs.declared.fault.Fault.{Fault}
use Rattle.command_files.specs.declared.fault.Fault.TheVariants.{Word, Unreadable, Unwritable, Line, NoChannel, NotABlock, NoTransaction, UnknownId, Output, Memory}
use Rattle.command_files.specs.Reading.{HoldsChannel, HoldConfiguration}

-- A word of the call, or the file of a path.
pub data AtFault : Type 0 where
  bad_word : AtFault
  no_transaction : ℕ → AtFault
  unknown_id : List ℕ → AtFault
  unreadable : List ℕ → AtFault
  unwritable : List ℕ → AtFault
  -- this line of its text
  line : List ℕ → ℕ → AtFault
  -- its text names no channel
  no_channel : List ℕ → AtFault
  -- it holds no block that another one can follow
  not_a_block : List ℕ → AtFault

-- None if standard output fails or memory runs out, which may happen at any time.
abbrev pub at_fault : Fault → Option AtFault
at_fault Word = Some bad_word
at_fault (NoTransaction place) = Some (no_transaction place)
at_fault (UnknownId id) = Some (unknown_id id.now)
at_fault (Unreadable path) = Some (unreadable path.now)
at_fault (Unwritable path) = Some (unwritable path.now)
at_fault (Line path n) = Some (line path.now n)
at_fault (NoChannel path) = Some (no_channel path.now)
at_fault (NotABlock path) = Some (not_a_block path.now)
at_fault Output = None
at_fault Memory = None

-- only this can be at fault
abbrev pub Because : (AtFault → Type 0) → Fault → Type 0
Because Why fault = IfSome (at_fault fault) Why

-- Only this can be at fault, and then nothing was printed.
abbrev pub EndsBefore : (AtFault → Type 0) → Option (List ℕ) → Option (List ℕ) → Fault → Type 0
EndsBefore Why before now fault = IfSome (at_fault fault) (λ what. Why what × Keeps before now)

-- what is at fault if a word isn't as it should be
abbrev pub of_word : WordFault → Option AtFault
of_word word_fault.NotAWord = Some bad_word
of_word word_fault.Memory = None

-- what is at fault in the file of a path if its channel text has a fault
abbrev pub of_channel_text : List ℕ → channel.Fault → AtFault
of_channel_text path (channel.no_form n) = line path n
of_channel_text path (channel.repeated n) = line path n
of_channel_text path (channel.no_policy n why) = line path n
of_channel_text path (channel.too_many n) = line path n
of_channel_text path channel.no_channel = no_channel path

-- The system doesn't read the file of this path.
abbrev pub IsUnread : Type 0 → List ℕ → AtFault → Type 0
IsUnread Refused path what = (what ≡ unreadable path) × Refused

-- The file of this path holds bytes that aren't UTF-8, first in this line.
pub record NoText (Holds : List ℕ → Type 0) (path : List ℕ) (what : AtFault) : Type 0 where
  pub bytes : List ℕ
  pub held : Holds bytes
  pub no_text : ¬ (IsUtf8 bytes)
  pub is_line : what ≡ line path (first_bad_line bytes)

-- The text has this first fault as a channel text.
pub record HasChannelFault (path text : List ℕ) (what : AtFault) : Type 0 where
  pub why : channel.Fault
  pub has_fault : configuration_of text ≡ Err why
  pub is_what : what ≡ of_channel_text path why

-- The file of this path holds such a text.
pub record NoChannelText (Holds : List ℕ → Type 0) (path : List ℕ) (what : AtFault) : Type 0 where
  pub text : List ℕ
  pub held : Holds text
  pub utf8 : IsUtf8 text
  pub fault : HasChannelFault path text what

-- It holds a text whose first line with a fault is this one, as a key book.
pub record NoKeyBook (Holds : List ℕ → Type 0) (path : List ℕ) (what : AtFault) : Type 0 where
  pub text : List ℕ
  pub held : Holds text
  pub utf8 : IsUtf8 text
  pub n : ℕ
  pub has_fault : book_of text ≡ Err (key_book.Line n)
  pub is_line : what ≡ line path n

-- No channel is read from the file of this path.
abbrev pub ChannelFails : (List ℕ → Type 0) → Type 0 → List ℕ → AtFault → Type 0
ChannelFails Holds Refused path what = IsUnread Refused path what ⊎ NoText Holds path what ⊎ NoChannelText Holds path what

-- No keys are read from the file of this path.
abbrev pub KeysFail : (List ℕ → Type 0) → Type 0 → List ℕ → AtFault → Type 0
KeysFail Holds Refused path what = IsUnread Refused path what ⊎ NoText Holds path what ⊎ NoKeyBook Holds path what

-- The channel's file is read first, and then that of the keys.
abbrev pub ConfigurationFails : (Holds : List ℕ → List ℕ → Type 0) → (Refuses : List ℕ → Type 0) → ConfigurationPaths → AtFault → Type 0
ConfigurationFails Holds Refuses paths what =
    ChannelFails (Holds paths.channel.now) (Refuses paths.channel.now) paths.channel.now what
    ⊎ ((channel : Configuration) × HoldsChannel (Holds paths.channel.now) channel × KeysFail (Holds paths.keys.now) (Refuses paths.keys.now) paths.keys.now what)

-- The first of the files that isn't read, if files hold what `Holds` says.
abbrev pub FilesFail : {X : Type 0} → (X → List ℕ → Type 0) → (X → AtFault → Type 0) → List X → AtFault → Type 0
FilesFail Holds Fails [] what = ⊥
FilesFail Holds Fails (path ∷ paths) what = Fails path what ⊎ ((bytes : List ℕ) × Holds path bytes × FilesFail Holds Fails paths what)

-- The channel, the keys and the blocks are read in this order.
abbrev pub InputsFail : (Holds : List ℕ → List ℕ → Type 0) → (Refuses : List ℕ → Type 0) → LedgerPaths → AtFault → Type 0
InputsFail Holds Refuses paths what =
    ConfigurationFails Holds Refuses paths.configuration what
    ⊎ ((channel : Configuration) × (keys : List Entry) × HoldConfiguration (Holds paths.configuration.channel.now) (Holds paths.configuration.keys.now) channel keys
    × FilesFail (λ path. Holds path.now) (λ path. IsUnread (Refuses path.now) path.now) paths.blocks.items what)
