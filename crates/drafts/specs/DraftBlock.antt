-- The block that a script makes after a header, or its first faulty line.
use Rattle.std.specs.Prelude.{ℕ, ◌+◌, if◌then◌else◌, List, [], ◌∷◌, Option, Some, None, Result, Ok, Err}
use Rattle.transaction.specs.declared.block_version.BlockVersion.{BlockVersion}
use Rattle.block.specs.Grammar.{bytes_of}
use Rattle.block.specs.declared.block.Block.{Block}
use Rattle.block.specs.declared.block.Header.{Header}
use Rattle.block.specs.declared.block.Previous.{Previous}
use Rattle.block.specs.declared.block.Previous.TheVariants.{Empty, Hash}
use Rattle.header_hash.specs.Hashes.{header_hash_of, data_hash_of}
use Rattle.key_book.specs.Entry.{Entry}
use Rattle.scripts.specs.declared.script.Item.{Item}
use Rattle.scripts.specs.declared.script.Item.TheVariants.{Raw, Drafted}
use Rattle.scripts.specs.declared.script.Script.{Script}
use Rattle.scripts.specs.Draft.{Draft}
use Rattle.scripts.specs.Script.{script_of}
use Rattle.drafts.specs.declared.fault.DraftFault.{DraftFault}
use Rattle.drafts.specs.declared.fault.DraftFault.TheVariants.{Line}
use Rattle.drafts.specs.DraftItem.{item_whole_bytes, drafted_item, is_too_long}

infixl 10 ◌>>=◌
abbrev pub ◌>>=◌ : {A B : Type 0} → Result A DraftFault → (A → Result B DraftFault) → Result B DraftFault
(Ok x) >>= f = f x
(Err fault) >>= f = Err fault

-- the bytes of a transaction or an update, unless it is too long: then the line with which it began is faulty
abbrev pub draft_bytes : List Entry → List ℕ → Draft → Result (List ℕ) DraftFault
draft_bytes keys channel draft =
    if is_too_long (drafted_item keys channel draft) then Err (Line draft.line) else Ok (item_whole_bytes (drafted_item keys channel draft))

abbrev pub item_bytes : List Entry → List ℕ → Item → Result (List ℕ) DraftFault
item_bytes keys channel (Raw bytes) = Ok bytes
item_bytes keys channel (Drafted draft) = draft_bytes keys channel draft

-- the bytes of each, or the first that is too long
abbrev pub items_bytes : List Entry → List ℕ → List Item → Result (List (List ℕ)) DraftFault
items_bytes keys channel [] = Ok []
items_bytes keys channel (item ∷ more) = do
  first ← item_bytes keys channel item
  others ← items_bytes keys channel more
  Ok (first ∷ others)

-- all of them, unless a line is faulty
abbrev pub or_line : Option ℕ → List (List ℕ) → Result (List (List ℕ)) DraftFault
or_line None txs = Ok txs
or_line (Some n) txs = Err (Line n)

-- A transaction or an update is too long once it has ended, so before each faulty line that follows.
abbrev pub script_txs : List Entry → List ℕ → Script → Result (List (List ℕ)) DraftFault
script_txs keys channel script = items_bytes keys channel script.items >>= or_line script.fault

-- after this header, or the first of all
abbrev pub number_after : Option Header → ℕ
number_after None = 0
number_after (Some previous) = previous.number + 1

abbrev pub previous_after : Option Header → Previous
previous_after None = Empty
previous_after (Some previous) = Hash (header_hash_of previous)

abbrev pub header_after : Option Header → List (List ℕ) → Header
header_after previous txs = record { number = number_after previous; previous = previous_after previous; data_hash = data_hash_of txs }

-- the block of this version and these transactions after a header
abbrev pub block_after : BlockVersion → Option Header → List (List ℕ) → Block
block_after version previous txs = record { version = version; header = header_after previous txs; txs = txs }

-- what is in the places of a block of this version that a text's script makes, or its first faulty line
abbrev pub txs_of : BlockVersion → List Entry → List ℕ → List ℕ → Result (List (List ℕ)) DraftFault
txs_of version keys channel text = script_txs keys channel (script_of version keys text)

-- the bytes of its block, or its first faulty line
abbrev pub drafted : List Entry → List ℕ → BlockVersion → Option Header → List ℕ → Result (List ℕ) DraftFault
drafted keys channel version previous text = txs_of version keys channel text >>= λ txs. Ok (bytes_of (block_after version previous txs))
