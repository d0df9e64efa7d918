use Rattle.std.proofs.Common.{◌≡◌, ◌<◌, List, length, sym, ap, ◌∙◌, arith}
use Rattle.std.proofs.lemmas.List.{get_or-map, length-map}
use Rattle.task_desk.specs.declared.status.Status.{Status}
use Rattle.task_desk.specs.declared.status.Status.TheVariants.{Done}
use Rattle.task_desk.specs.Status.{status_at}
use Rattle.task_desk.specs.Codes.{status_of}
use Rattle.task_desk.proofs.InRuns.{one-more}
use Rattle.task_desk.proofs.status_list.StatusList.is_run.Goals as goal

pub loop-task-preserved : goal.loop-task-preserved
loop-task-preserved c =
    let codes = c.self.inside.codes.items in
    let task = c.loop-task.task in
    let inside : task < length codes =
    omega (arith, c.loop-task-test.true, c.requires.end, length-map codes status_of, ap (λ (ts : List Status). length ts) c.self.view_is) in
    let here : status_at c.args.self.now task ≡ c.args.is =
    ap (λ (ts : List Status). status_at ts task) (sym c.self.view_is) ∙ get_or-map status_of codes task c.index.result.now Done inside
    ∙ ap status_of (sym c.index.ensures ∙ c.if-index-code.false) ∙ c.code_of-code.ensures in
    one-more (λ t. status_at c.args.self.now t ≡ c.args.is) c.args.run.from task c.loop-task.invariant here
