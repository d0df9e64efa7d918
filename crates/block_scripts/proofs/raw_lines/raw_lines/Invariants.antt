use Rattle.std.proofs.Common.{◌≡◌, take}
use Rattle.std.specs.List.{AllByRecursion}
use Rattle.hex.specs.Hex.{IsBytes}
use Rattle.scripts.specs.RawLines.{raw_lines}
use Rattle.block_scripts.proofs.raw_lines.raw_lines.Given as goal

abbrev pub invariant-loop-tx : goal.invariant-loop-tx
invariant-loop-tx l = record {
  lines : l.lines.items ≡ raw_lines (take l.tx-index l.txs);
  bytes : AllByRecursion IsBytes (take l.tx-index l.txs);
}
