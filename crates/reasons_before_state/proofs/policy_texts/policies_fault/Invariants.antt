use Rattle.std.proofs.Common.{◌≡◌, map, drop}
use Rattle.reasons.specs.First.{first_there}
use Rattle.reasons.specs.Form.{policy_fault}
use Rattle.reasons_before_state.proofs.policy_texts.policies_fault.Given as goal

abbrev pub invariant-loop-write : goal.invariant-loop-write
invariant-loop-write l = first_there (map (policy_fault l.namespace) l.writes) ≡ first_there (map (policy_fault l.namespace) (drop l.write-index l.writes))
