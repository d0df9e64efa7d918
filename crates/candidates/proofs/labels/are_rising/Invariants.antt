use Rattle.std.proofs.Common.{◌≡◌, ◌++◌, map, drop, option_to_list}
use Rattle.std.specs.Option.{option_copied}
use Rattle.candidates.specs.Rising.{are_rising}
use Rattle.candidates.proofs.labels.are_rising.Given as goal

abbrev pub invariant-loop-item : goal.invariant-loop-item
invariant-loop-item g l = are_rising (map g.T.Labelled.label l.items) ≡ are_rising (option_to_list (option_copied l.last) ++ map g.T.Labelled.label (drop l.item-index l.items))
