use Rattle.std.proofs.Common.{◌≡◌, ◌-◌, Bool, cond, List, ap, sym, subst, ◌∙◌, arith}
use Rattle.task_desk.specs.declared.status.Status.{Status}
use Rattle.task_desk.specs.declared.status.Status.TheVariants.{Done}
use Rattle.task_desk.specs.Desk.{IsDesk}
use Rattle.task_desk.specs.Runs.{with_run, with_run_done}
use Rattle.task_desk.specs.Waiting.{AreWaiting}
use Rattle.task_desk.proofs.RunCalls.{done-run}
use Rattle.task_desk.proofs.desk.Desk.done_run.Goals as goal

pub invariant_of-self-else-not-finish_run : goal.invariant_of-self-else-not-finish_run
invariant_of-self-else-not-finish_run c =
    let tasks = c.self.inside.statuses in
    let from = c.args.run.from in
    let count = c.args.run.end - from in
    let done : c.finish_run.new.self ≡ with_run Done tasks from count =
    c.finish_run.ensures.new ∙ ap (λ (b : Bool). cond b (with_run Done tasks from count) tasks) c.if-not-finish_run.false in
    let kept =
    done-run tasks c.self.inside.waits from count c.self.invariant.0 c.self.invariant.1 (c.has_waiting.ensures c.if-has_waiting.false)
    (λ t le lt. c.finish_run.ensures.out c.if-not-finish_run.false t le (omega (arith, lt, le))) in (
      subst IsDesk (sym done) kept.1.0,
      subst (λ (ts : List Status). AreWaiting ts c.self.inside.waits) (sym done) kept.1.1,
    )

pub returns-else-not-finish_run : goal.returns-else-not-finish_run
returns-else-not-finish_run c =
    let tasks = c.self.inside.statuses in
    let from = c.args.run.from in
    let count = c.args.run.end - from in
    c.finish_run.ensures.new
    ∙ ap (λ (b : Bool). cond b (with_run Done tasks from count) tasks) c.if-not-finish_run.false
    ∙ (done-run tasks c.self.inside.waits from count c.self.invariant.0 c.self.invariant.1 (c.has_waiting.ensures c.if-has_waiting.false)
    (λ t le lt. c.finish_run.ensures.out c.if-not-finish_run.false t le (omega (arith, lt, le)))).0
    ∙ ap (λ (ts : List Status). with_run_done ts from count) c.self.view_is
