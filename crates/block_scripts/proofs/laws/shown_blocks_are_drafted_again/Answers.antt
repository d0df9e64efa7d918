use Rattle.std.proofs.Common.{Ok, ap, sym, ◌∙◌}
use Rattle.block.specs.Grammar.{bytes_of}
use Rattle.block.specs.declared.block.Block.{Block}
use Rattle.block.specs.declared.block.Header.{Header}
use Rattle.block_scripts.proofs.laws.shown_blocks_are_drafted_again.Goals as goal

with_header : Block → Header → Block
with_header block header = record { version = block.version; header = header; txs = block.txs }

pub returns : goal.returns
unfolding with_header
returns c = λ keys channel text bytes block previous spelled headed shown. shown previous ∙ ap (λ (h : Header). Ok (bytes_of (with_header block h))) (sym headed) ∙ ap Ok (sym spelled.fields)
