use Rattle.std.proofs.Common.{◌≡◌, ◌≤◌, length, map, drop, option_map}
use Rattle.std.specs.Option.{option_copied}
use Rattle.reasons.specs.Form.{first_repeated}
use Rattle.reasons_before_state.specs.Labels.{HaveSameLabels}
use Rattle.reasons_before_state.proofs.repeats.first_repeated.Given as goal

abbrev pub invariant-loop-i : goal.invariant-loop-i
invariant-loop-i g l =
    (l.i ≤ length l.items)
    × HaveSameLabels (map g.T.Labelled.label (drop l.i l.items)) (map (λ k. k.now) l.behind.keys)
    × (option_map g.T.Labelled.label (option_copied l.found) ≡ first_repeated (map g.T.Labelled.label (drop l.i l.items)))

abbrev pub decreases-loop-i : goal.decreases-loop-i
decreases-loop-i g l = l.i
