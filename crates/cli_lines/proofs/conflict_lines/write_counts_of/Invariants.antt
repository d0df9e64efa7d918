use Rattle.std.proofs.Common.{List, take}
use Rattle.std.specs.Io.KnownBytes.{Appends}
use Rattle.reasons.specs.declared.reason.Reason.{Reason}
use Rattle.conflicts.specs.Tally.{Counts}
use Rattle.cli_lines.specs.ConflictLines.{lines_of}
use Rattle.cli_lines.proofs.conflict_lines.write_counts_of.Given as goal

abbrev pub invariant-loop-flag : goal.invariant-loop-flag
invariant-loop-flag g l = (reasons : List Reason) → Counts reasons l.tally
    → Appends (g.W.Write.contents l.fn.out) (g.W.Write.contents l.out) (lines_of l.format reasons (take l.flag-index l.flags))
