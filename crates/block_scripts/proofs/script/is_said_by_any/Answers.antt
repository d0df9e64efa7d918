use Rattle.std.proofs.Common.{List, Ok, ap, sym, ◌∙◌}
use Rattle.key_book.specs.Entry.{Entry}
use Rattle.drafts.specs.DraftBlock.{txs_of}
use Rattle.block_scripts.proofs.Shown.{any_says}
use Rattle.block_scripts.proofs.script.is_said_by_any.Goals as goal

pub returns : goal.returns
returns c = λ said keys channel.
    let version = c.args.block.now.version in
    let other = c.in_ok-channel.channel in
    let there = c.in_ok-says.ensures said in
    any_says keys channel other version c.args.block.now.txs c.args.lines.now
    (
    ap (λ (k : List Entry). txs_of version k other c.args.lines.now) (sym c.in_ok-keys.ensures)
    ∙ ap (txs_of version c.in_ok-keys.keys other) (sym c.as_slice.ensures) ∙ there ∙ ap Ok c.as_slice-txs.ensures
    )
