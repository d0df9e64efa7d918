-- What a drafted block is: it has the header that belongs after another, and the transactions and updates of its script
-- in order.
use Rattle.std.specs.Prelude.{◌≡◌, ℕ, List, [], ◌∷◌, Option, None}
use Rattle.transaction.specs.Items.{SpellsItem}
use Rattle.transaction.specs.declared.block_version.BlockVersion.{BlockVersion}
use Rattle.block.specs.Grammar.{Spells}
use Rattle.block.specs.declared.block.Header.{Header}
use Rattle.key_book.specs.Entry.{Entry}
use Rattle.scripts.specs.declared.script.Item.{Item}
use Rattle.scripts.specs.declared.script.Item.TheVariants.{Raw, Drafted}
use Rattle.scripts.specs.Script.{script_of}
use Rattle.drafts.specs.DraftItem.{drafted_item}
use Rattle.drafts.specs.DraftBlock.{block_after}

-- a raw transaction's bytes are those in the script, and the bytes of a drafted transaction or update encode it in this
-- version
abbrev pub Makes : BlockVersion → List Entry → List ℕ → Item → List ℕ → Type 0
Makes version keys channel (Raw bytes) tx = tx ≡ bytes
Makes version keys channel (Drafted draft) tx = SpellsItem version tx (drafted_item keys channel draft)

-- one for each item, in order
abbrev pub MakesAll : BlockVersion → List Entry → List ℕ → List Item → List (List ℕ) → Type 0
MakesAll version keys channel [] [] = Unit {0}
MakesAll version keys channel [] (tx ∷ txs) = ⊥
MakesAll version keys channel (item ∷ items) [] = ⊥
MakesAll version keys channel (item ∷ items) (tx ∷ txs) = Makes version keys channel item tx × MakesAll version keys channel items txs

-- what a whole script puts in the places of its block
pub record AreMade (version : BlockVersion) (keys : List Entry) (channel text : List ℕ) (txs : List (List ℕ)) : Type 0 where
  -- no line is faulty
  pub whole : (script_of version keys text).fault ≡ None
  pub makes : MakesAll version keys channel (script_of version keys text).items txs

pub record IsDrafted (keys : List Entry) (channel : List ℕ) (version : BlockVersion) (previous : Option Header) (text bytes : List ℕ) : Type 0 where
  pub txs : List (List ℕ)
  pub drafted : AreMade version keys channel text txs
  pub spelled : Spells bytes (block_after version previous txs)
