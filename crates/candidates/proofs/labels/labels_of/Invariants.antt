use Rattle.std.proofs.Common.{◌≡◌, map, take}
use Rattle.candidates.proofs.labels.labels_of.Given as goal

abbrev pub invariant-loop-item : goal.invariant-loop-item
invariant-loop-item g l = map (λ label. label.now) l.labels.items ≡ map g.T.Labelled.label (take l.item-index l.items)
