use Rattle.std.proofs.Common.{◌≡◌, ◌+◌, List, [], ◌∷◌, ◌++◌, take, get_or, add-one, sym, subst, ◌∙◌}
use Rattle.std.proofs.Math.Seq.{take-suc}
use Rattle.rules.specs.declared.event.Event.{Event}
use Rattle.rules.specs.declared.event.Event.TheVariants.{Endorse}
use Rattle.rules.specs.Machine.{first_board, Run}
use Rattle.dependency.specs.Rows.{board_of}
use Rattle.dependency.proofs.Beginning.{first_rows}
use Rattle.dependency.proofs.Reaching.{run_more, run_counts}
use Rattle.rules.proofs.Sound.{runs_show}
use Rattle.dependency.proofs.events.run_events.Goals as goal

pub loop-event-init : goal.loop-event-init
loop-event-init c = first_rows c.args.job.now c.in_ok-board.board c.in_ok-board.ensures

pub check-requires : goal.check-requires
check-requires c = run_counts c.args.job.now (take c.loop-event.event-index c.args.events.now) c.loop-event.board c.loop-event.invariant

pub loop-event-preserved : goal.loop-event-preserved
loop-event-preserved c =
    let es = c.args.events.now in
    let i = c.loop-event.event-index in
    let one_more : take (i + 1) es ≡ take i es ++ get_or es i (Endorse 0) ∷ [] = rw add-one (take-suc es i (Endorse 0) c.loop-event-test.true) in
    subst (λ (events : List Event). Run c.args.job.now (first_board c.args.job.now) events (board_of c.check.new.board)) (sym one_more)
    (run_more c.args.job.now (take i es) (get_or es i (Endorse 0)) _ _ _ c.loop-event.invariant c.check.ensures)

pub invariant_of-result : goal.invariant_of-result
invariant_of-result c = run_counts c.args.job.now (take c.loop-event.event-index c.args.events.now) c.loop-event.board c.loop-event.invariant ∙ sym c.len.ensures.value

pub returns-clause-fold : goal.returns-clause-fold
returns-clause-fold c = runs_show c.args.job.now (take c.loop-event.event-index c.args.events.now) _ c.loop-event.invariant
