use Rattle.std.proofs.Common.{◌≡◌, take}
use Rattle.std.specs.Prelude.{IsTrue}
use Rattle.std.specs.List.{All}
use Rattle.rules.specs.State.{StateKey}
use Rattle.conflicts.specs.Tally.{counts_in, has_line}
use Rattle.conflicts.proofs.key_table.give_lines.Given as goal

abbrev pub invariant-loop-conflict : goal.invariant-loop-conflict
invariant-loop-conflict l = record {
  counts : (k : StateKey) → counts_in l.lines.entries k ≡ counts_in l.fn.lines.entries k;
  there : All (λ c. IsTrue (has_line l.lines.entries c.key)) (take l.conflict-index l.conflicts);
}
