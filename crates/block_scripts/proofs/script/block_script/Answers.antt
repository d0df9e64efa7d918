use Rattle.block_scripts.proofs.Shown.{raw_shows}
use Rattle.block_scripts.proofs.script.block_script.Goals as goal

pub returns : goal.returns
returns c =
    let lines = c.in_ok-raw_lines in
    raw_shows c.args.keys.now c.args.channel.now c.args.block.now.version c.args.block.now.txs c.as_slice-txs.result.now lines.field-0 c.as_slice-txs.ensures lines.ensures.lines lines.ensures.bytes
    c.requires.count c.requires.each
