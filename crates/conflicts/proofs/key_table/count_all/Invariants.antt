use Rattle.std.proofs.Common.{◌≡◌, ◌+◌, ◌++◌, List, take}
use Rattle.std.specs.Prelude.{IsTrue}
use Rattle.std.specs.List.{All}
use Rattle.conflicts.specs.declared.conflict.Conflict.{Conflict}
use Rattle.conflicts.specs.Tally.{has_line, IsWithin, CountsKeys}
use Rattle.conflicts.proofs.key_table.count_all.Given as goal

abbrev pub invariant-loop-conflict : goal.invariant-loop-conflict
invariant-loop-conflict l = record {
  total : l.total ≡ l.fn.total + l.conflict-index;
  counts : (before : List Conflict) → CountsKeys before l.fn.lines.entries → CountsKeys (before ++ take l.conflict-index l.conflicts) l.lines.entries;
  there : All (λ c. IsTrue (has_line l.lines.entries c.key)) l.conflicts;
  within : IsWithin l.total l.lines.entries;
}
