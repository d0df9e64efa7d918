use Rattle.std.proofs.Common.{Bool, cond, ap, ◌∙◌}
use Rattle.task_desk.specs.Desk.{with_done}
use Rattle.task_desk.proofs.RunCalls.{done-step}
use Rattle.task_desk.proofs.desk.done_each.Goals as goal

pub loop-task-preserved : goal.loop-task-preserved
loop-task-preserved c =
    let tasks = c.loop-task.desk in
    let t = c.loop-task.task in
    done-step tasks c.done.new.self t c.args.run.end c.loop-task-test.true (c.done.ensures.new ∙ ap (λ (b : Bool). cond b (with_done tasks t) tasks) c.done.ensures.answer) ∙ c.loop-task.invariant
