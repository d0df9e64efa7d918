use Rattle.std.proofs.Common.{◌≡◌, ◌++◌, take, map}
use Rattle.std.specs.Prelude.{flat_map}
use Rattle.rules.specs.Delta.{entries_in}
use Rattle.plain.proofs.history.entries_of.Given as goal

abbrev pub invariant-loop-set : goal.invariant-loop-set
invariant-loop-set l =
    entries_in l.entries.items ≡ entries_in l.initial.entries.items ++ flat_map (λ n. map (λ w. ((n.name, w.key), record { version = l.version; id = l.tx.id; value = w.value })) n.writes) (take l.set-index l.set-items)
