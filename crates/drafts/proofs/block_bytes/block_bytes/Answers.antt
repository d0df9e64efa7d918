use Rattle.std.proofs.Common.{◌≡◌, ℕ, List, Err, ap, sym, ◌∙◌, subst}
use Rattle.transaction.specs.declared.block_version.BlockVersion.{BlockVersion}
use Rattle.block.specs.Grammar.{Spells, bytes_of}
use Rattle.block.specs.declared.block.Block.{Block}
use Rattle.block.specs.declared.block.Header.{Header}
use Rattle.drafts.specs.DraftBlock.{header_after, block_after}
use Rattle.drafts.proofs.BlockLimits.{block_spelled}
use Rattle.drafts.proofs.block_bytes.block_bytes.Goals as goal

block : BlockVersion → Header → List (List ℕ) → Block
block version header txs = record { version = version; header = header; txs = txs }

pub unreachable-requires : goal.unreachable-requires
unfolding block
unreachable-requires c =
    let after = block_after c.args.version c.args.previous c.args.txs.now in
    let headed = c.header_after.ensures
    ∙ ap (header_after c.args.previous) (c.as_slice.ensures ∙ c.in_ok-lent.ensures) in
    let is : block c.args.version c.header_after.result c.in_ok-lent.lent ≡ after =
    ap (λ (h : Header). block c.args.version h c.in_ok-lent.lent) headed ∙ ap (block c.args.version after.header) c.in_ok-lent.ensures in
    let spelled = block_spelled c.args.version c.args.previous c.args.txs.now c.requires.number c.requires.count c.requires.each in
    c.encode_block.ensures.too_large (c.in-Err-TooLarge.is ∙ ap Err c.in-Err-TooLarge.field-0-is) (bytes_of after)
    (subst (λ (b : Block). Spells (bytes_of after) b) (sym is) spelled)
