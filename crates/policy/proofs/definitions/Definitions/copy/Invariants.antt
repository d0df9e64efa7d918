use Rattle.std.proofs.Common.{◌≡◌}
use Rattle.policy.proofs.Names.{with_entries}
use Rattle.policy.proofs.definitions.Definitions.copy.Given as goal

abbrev pub invariant-loop-name : goal.invariant-loop-name
invariant-loop-name l = with_entries l.name-iterator.iter l.copied ≡ l.self
