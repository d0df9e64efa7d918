use Rattle.std.proofs.Common.{◌≡◌, ◌++◌, map, take, drop}
use Rattle.std.specs.List.{list_all}
use Rattle.rules.specs.ReadWriteSets.{has_policy_in_form}
use Rattle.candidates.specs.Gathering.{policy_write}
use Rattle.candidates.proofs.gathering.add_policies.Given as goal

abbrev pub invariant-loop-write : goal.invariant-loop-write
invariant-loop-write l = record {
  form : list_all has_policy_in_form l.set.policy_writes ≡ list_all has_policy_in_form (drop l.write-index l.set.policy_writes);
  added : l.written.items ≡ l.initial.written.items ++ map (policy_write l.set) (take l.write-index l.set.policy_writes);
}
