-- What `draft` writes, from what the files hold.
use Rattle.std.specs.Prelude.{◌≡◌, ℕ, List, Option, Some, None}
use Rattle.std.specs.Str.{IsUtf8}
use Rattle.block.specs.Grammar.{Spells}
use Rattle.block.specs.declared.block.Block.{Block}
use Rattle.block.specs.declared.block.Header.{Header}
use Rattle.channel.specs.Configuration.{Configuration}
use Rattle.key_book.specs.Entry.{Entry}
use Rattle.drafts.specs.Drafted.{IsDrafted}
use Rattle.cli_words.specs.declared.draft.Draft.{Draft}
use Rattle.command_files.specs.Reading.{HoldConfiguration}

-- these bytes spell a block with this header
pub record IsHeaderOf (bytes : List ℕ) (header : Header) : Type 0 where
  pub block : Block
  pub spelled : Spells bytes block
  pub is_header : header ≡ block.header

-- the header of the block in the file of a path, or none if there is no path
abbrev pub IsPrevious : {X : Type 0} → (X → List ℕ → Type 0) → Option X → Option Header → Type 0
IsPrevious Holds None previous = previous ≡ None
IsPrevious Holds (Some path) previous = (header : Header) × (previous ≡ Some header) × ((bytes : List ℕ) × Holds path bytes × IsHeaderOf bytes header)

-- the block that the files of these words draft, if files hold what `Holds` says
pub record IsDraftOf (Holds : List ℕ → List ℕ → Type 0) (words : Draft) (block : List ℕ) : Type 0 where
  pub channel : Configuration
  pub keys : List Entry
  pub configured : HoldConfiguration (Holds words.configuration.channel.now) (Holds words.configuration.keys.now) channel keys
  pub previous : Option Header
  pub is_previous : IsPrevious (λ path. Holds path.now) words.after previous
  pub script : List ℕ
  pub held : Holds words.script.now script
  pub utf8 : IsUtf8 script
  pub drafted : IsDrafted keys channel.name words.version previous script block

-- `draft` on these words: the block's file was written so
pub record Drafts (Holds Written : List ℕ → List ℕ → Type 0) (words : Draft) (status : ℕ) : Type 0 where
  pub block : List ℕ
  pub is_draft : IsDraftOf Holds words block
  pub written : Written words.out.now block
  pub is_status : status ≡ 0
