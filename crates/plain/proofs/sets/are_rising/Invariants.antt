use Rattle.std.proofs.Common.{◌≡◌, drop}
use Rattle.std.specs.Option.{option_copied}
use Rattle.plain.specs.Rising.{are_rising}
use Rattle.plain.proofs.InForm.{rise_after}
use Rattle.plain.proofs.sets.are_rising.Given as goal

abbrev pub invariant-loop-found : goal.invariant-loop-found
invariant-loop-found l = are_rising l.results ≡ rise_after (option_copied l.last) (drop l.found-index l.results)
