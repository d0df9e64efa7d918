use Rattle.std.proofs.Common.{◌≡◌, true, false, refl, sym, ◌∙◌}
use Rattle.std.specs.List.{list_all}
use Rattle.plain.specs.RangeChecks.{is_listed}
use Rattle.plain.specs.StateNow.{state_now}
use Rattle.plain.proofs.RangeChecks.{range_over_changes, all_hold, first_fails, second_fails}
use Rattle.plain.proofs.ranges.range_holds.Goals as goal
use Rattle.plain.proofs.ranges.range_holds.Goals.{then-are_found, else-are_found}

pub returns-then-are_listed : goal.returns-then-are_listed
returns-then-are_listed c =
    let law = range_over_changes c.changes-before.result.now c.args.state.changes.now c.args.state.world.now.state (state_now c.args.state) c.args.namespace.now c.args.range.now c.changes-before.ensures refl c.requires in
    elim c.if-are_found.branch [
      | then-are_found w ↦ c.are_listed-then-are_listed.ensures ∙ all_hold _ _ _ _ law (sym c.are_found.ensures ∙ w.if-are_found.true) (sym w.are_listed.ensures ∙ sym w.value-is ∙ c.if-are_listed.true)
      | else-are_found w ↦ let never : false ≡ true = sym w.if-are_found.false ∙ sym w.value-is ∙ c.if-are_listed.true in absurd cc
    ]

pub returns-else-are_listed : goal.returns-else-are_listed
returns-else-are_listed c =
    let is_row_listed = is_listed (state_now c.args.state) c.args.namespace.now c.args.range.now in
    let law = range_over_changes c.changes-before.result.now c.args.state.changes.now c.args.state.world.now.state (state_now c.args.state) c.args.namespace.now c.args.range.now c.changes-before.ensures refl c.requires in
    elim c.if-are_found.branch [
      | then-are_found w ↦ c.if-are_listed.false ∙ second_fails _ _ _ (list_all is_row_listed c.args.state.changes.now) law (sym c.are_found.ensures ∙ w.if-are_found.true) (sym w.are_listed.ensures ∙ sym w.value-is ∙ c.if-are_listed.false)
      | else-are_found w ↦ w.value-is ∙ w.if-are_found.false ∙ first_fails _ _ (list_all is_row_listed c.changes-before.result.now) (list_all is_row_listed c.args.state.changes.now) law (sym c.are_found.ensures ∙ w.if-are_found.false)
    ]
