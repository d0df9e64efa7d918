use Rattle.std.proofs.Common.{◌≡◌, map, drop}
use Rattle.std.specs.List.{list_any}
use Rattle.std.specs.Str.{bytes_eq}
use Rattle.candidates.proofs.labels.is_among.Given as goal

abbrev pub invariant-loop-item : goal.invariant-loop-item
invariant-loop-item g l = list_any (bytes_eq l.label) (map g.T.Labelled.label l.items) ≡ list_any (bytes_eq l.label) (map g.T.Labelled.label (drop l.item-index l.items))
