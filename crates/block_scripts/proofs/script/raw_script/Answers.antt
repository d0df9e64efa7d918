use Rattle.block_scripts.proofs.Shown.{raw_shows}
use Rattle.block_scripts.proofs.script.raw_script.Goals as goal

pub returns : goal.returns
returns c = λ keys channel.
    let lines = c.in_ok-raw_lines in
    raw_shows keys channel c.args.block.now.version c.args.block.now.txs c.as_slice.result.now lines.field-0 c.as_slice.ensures lines.ensures.lines lines.ensures.bytes c.requires.count c.requires.each
