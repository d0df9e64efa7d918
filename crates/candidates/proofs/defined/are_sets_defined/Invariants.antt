use Rattle.std.proofs.Common.{◌≡◌, ◌++◌, drop}
use Rattle.std.specs.Prelude.{flat_map}
use Rattle.std.specs.List.{list_all}
use Rattle.rules.specs.Candidate.{is_defined}
use Rattle.rules.specs.Effect.{value_keys_in, policy_keys_in}
use Rattle.candidates.proofs.defined.are_sets_defined.Given as goal

abbrev pub invariant-loop-set : goal.invariant-loop-set
invariant-loop-set l =
    list_all (λ k. is_defined l.definitions k.0) (flat_map (λ n. value_keys_in n ++ policy_keys_in n) l.sets)
    ≡ list_all (λ k. is_defined l.definitions k.0) (flat_map (λ n. value_keys_in n ++ policy_keys_in n) (drop l.set-index l.sets))
