use Rattle.std.proofs.Common.{◌≡◌, drop}
use Rattle.std.specs.List.{list_all}
use Rattle.rules.specs.Candidate.{is_defined}
use Rattle.plain.specs.Keys.{keys_of}
use Rattle.plain.proofs.intake.are_defined.Given as goal

abbrev pub invariant-loop-key : goal.invariant-loop-key
invariant-loop-key l = list_all (λ k. is_defined l.definitions k.0) (keys_of l.keys) ≡ list_all (λ k. is_defined l.definitions k.0) (keys_of (drop l.key-index l.keys))
