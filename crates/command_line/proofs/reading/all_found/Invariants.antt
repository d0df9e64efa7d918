use Rattle.std.proofs.Common.{◌≡◌, ◌++◌, map, Ok}
use Rattle.std.specs.Vec.Iter.{into_iter_items}
use Rattle.command_line.proofs.reading.all_found.Given as goal

-- what was found, and what is left
abbrev pub invariant-loop-one : goal.invariant-loop-one
invariant-loop-one l = map Ok l.all.items ++ into_iter_items l.one-iterator ≡ l.fn.found.items
