-- When a text shows a block.
use Rattle.std.specs.Prelude.{◌≡◌, ℕ, List, Option, Ok}
use Rattle.transaction.specs.declared.block_version.BlockVersion.{BlockVersion}
use Rattle.block.specs.Grammar.{bytes_of}
use Rattle.block.specs.declared.block.Header.{Header}
use Rattle.key_book.specs.Entry.{Entry}
use Rattle.drafts.specs.DraftBlock.{drafted, block_after}

-- Drafted again after any header, on this channel and by these keys, the text gives a block of these transactions to
-- the byte.
abbrev pub Shows : List Entry → List ℕ → BlockVersion → List (List ℕ) → List ℕ → Type 0
Shows keys channel version txs text =
    (previous : Option Header) → drafted keys channel version previous text ≡ Ok (bytes_of (block_after version previous txs))
