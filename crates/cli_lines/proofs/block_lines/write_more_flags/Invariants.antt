use Rattle.std.proofs.Common.{take}
use Rattle.std.specs.List.{flat_map}
use Rattle.std.specs.Io.KnownBytes.{Appends}
use Rattle.cli_lines.specs.BlockLines.{further_flag}
use Rattle.cli_lines.proofs.block_lines.write_more_flags.Given as goal

abbrev pub invariant-loop-flag : goal.invariant-loop-flag
invariant-loop-flag g l = Appends (g.W.Write.contents l.fn.out) (g.W.Write.contents l.out) (flat_map further_flag (take l.flag-index l.flags))
