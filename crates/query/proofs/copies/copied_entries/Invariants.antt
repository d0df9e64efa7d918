use Rattle.std.proofs.Common.{◌≡◌, ◌++◌}
use Rattle.query.proofs.copies.copied_entries.Given as goal

abbrev pub invariant-loop-entry : goal.invariant-loop-entry
invariant-loop-entry l = l.copied.items ++ l.entry-iterator ≡ l.fn.entries
