use Rattle.std.proofs.Common.{sym, ap, ◌∙◌}
use Rattle.std.specs.FinMap.{get}
use Rattle.rules.specs.State.{State}
use Rattle.rules.proofs.Changes.{with_changes-none}
use Rattle.plain.specs.Keys.{key_of}
use Rattle.plain.proofs.Worlds.{one_change}
use Rattle.plain.proofs.world.row_after.Goals as goal
use Rattle.plain.proofs.world.row_after.Goals.{then-is_changed, else-is_changed}

pub loop-change-init : goal.loop-change-init
loop-change-init c = λ s e. e ∙ ap (λ (t : State). get t (key_of c.args.wanted.now)) (sym (with_changes-none s))

pub loop-change-preserved : goal.loop-change-preserved
loop-change-preserved c = λ s e.
    let more = one_change s c.args.changes.now c.loop-change.change-index c.change-item.result (key_of c.args.wanted.now) c.loop-change-test.true c.change-item.is in
    elim c.if-is_changed.branch [
      | then-is_changed w ↦ rw (w.row-is, more, ← c.is_changed.ensures, w.if-is_changed.true) w.row-row.ensures
      | else-is_changed w ↦ rw (w.row-is, more, ← c.is_changed.ensures, w.if-is_changed.false) (c.loop-change.invariant s e)
    ]
