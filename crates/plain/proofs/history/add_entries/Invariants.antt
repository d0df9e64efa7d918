use Rattle.std.proofs.Common.{◌≡◌, ◌++◌, take, map}
use Rattle.rules.specs.Delta.{entries_in}
use Rattle.plain.proofs.history.add_entries.Given as goal

abbrev pub invariant-loop-write : goal.invariant-loop-write
invariant-loop-write l =
    entries_in l.entries.items ≡ entries_in l.initial.entries.items ++ map (λ w. ((l.set.name, w.key), record { version = l.version; id = l.tx.id; value = w.value })) (take l.write-index l.set.writes)
