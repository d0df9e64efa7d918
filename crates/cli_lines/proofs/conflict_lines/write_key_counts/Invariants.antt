use Rattle.std.proofs.Common.{take}
use Rattle.std.specs.List.{flat_map}
use Rattle.std.specs.Io.KnownBytes.{Appends}
use Rattle.cli_lines.specs.ConflictLines.{key_line}
use Rattle.cli_lines.proofs.conflict_lines.write_key_counts.Given as goal

abbrev pub invariant-loop-line : goal.invariant-loop-line
invariant-loop-line g l = Appends (g.W.Write.contents l.fn.out) (g.W.Write.contents l.out) (flat_map (key_line l.format) (take l.line-index l.lines))
