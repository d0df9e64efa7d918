use Rattle.std.proofs.Common.{◌≡◌, drop}
use Rattle.std.specs.List.{list_all}
use Rattle.rules.specs.Ranges.{is_within}
use Rattle.candidates.proofs.form.are_within.Given as goal

abbrev pub invariant-loop-found : goal.invariant-loop-found
invariant-loop-found l = list_all (λ x. is_within l.start l.end x.key) l.results ≡ list_all (λ x. is_within l.start l.end x.key) (drop l.found-index l.results)
