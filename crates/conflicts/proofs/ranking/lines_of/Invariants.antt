use Rattle.std.proofs.Common.{◌≡◌, ◌++◌}
use Rattle.std.specs.Prelude.{filter}
use Rattle.conflicts.specs.Tally.{is_line}
use Rattle.conflicts.proofs.ranking.lines_of.Given as goal

abbrev pub invariant-loop-key : goal.invariant-loop-key
invariant-loop-key l = l.lines.items ++ filter is_line l.key-iterator ≡ filter is_line l.table.entries
