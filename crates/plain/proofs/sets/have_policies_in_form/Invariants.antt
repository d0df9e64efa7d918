use Rattle.std.proofs.Common.{◌≡◌, drop}
use Rattle.std.specs.List.{list_all}
use Rattle.rules.specs.ReadWriteSets.{has_policy_in_form}
use Rattle.plain.proofs.sets.have_policies_in_form.Given as goal

abbrev pub invariant-loop-write : goal.invariant-loop-write
invariant-loop-write l = list_all has_policy_in_form l.writes ≡ list_all has_policy_in_form (drop l.write-index l.writes)
