use Rattle.std.proofs.Common.{ap, ◌∙◌}
use Rattle.state_db.specs.Batch.{changed}
use Rattle.state_db.proofs.Additions.{no_changes, changes_more}
use Rattle.state_db.proofs.batch.Batch.of_looked_up.Goals as goal

pub loop-change-init : goal.loop-change-init
loop-change-init c = λ s. ap (changed s) c.in_ok-batch.ensures ∙ no_changes s

pub loop-change-preserved : goal.loop-change-preserved
loop-change-preserved c = λ s.
    changes_more c.args.changes.now c.loop-change.change-index c.change-item.result s (changed s c.loop-change.batch) (changed s c.add_guessed.new.self) c.loop-change-test.true c.change-item.is
    (c.in_ok-from.ensures.made s) (c.loop-change.invariant s)
