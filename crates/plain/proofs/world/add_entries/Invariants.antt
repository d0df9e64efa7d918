use Rattle.std.proofs.Common.{◌≡◌, ◌++◌, take, map}
use Rattle.plain.specs.Entries.{entries_for}
use Rattle.plain.specs.Keys.{key_of}
use Rattle.plain.proofs.world.add_entries.Given as goal

abbrev pub invariant-loop-entry : goal.invariant-loop-entry
invariant-loop-entry l = map (λ e. e.now) l.found.items ≡ map (λ e. e.now) l.initial.found.items ++ entries_for (key_of l.wanted) (take l.entry-index l.entries)
