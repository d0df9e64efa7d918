use Rattle.std.proofs.Common.{◌≡◌, ◌+◌, ◌-◌, Bool, List, length, ap, sym, subst, ◌∙◌, arith}
use Rattle.std.proofs.lemmas.List.{length-map}
use Rattle.task_desk.specs.declared.status.Status.{Status}
use Rattle.task_desk.specs.Status.{is_unhanded}
use Rattle.task_desk.specs.Runs.{IsNextRun}
use Rattle.task_desk.specs.Counted.{IsCounted}
use Rattle.task_desk.proofs.Counting.{taken-counted, run-found}
use Rattle.task_desk.proofs.statuses.Statuses.take_run.Goals as goal

pub invariant_of-self : goal.invariant_of-self
invariant_of-self c =
    let tasks = c.self.inside.list in
    let unhanded = c.self.inside.unhanded in
    let from = c.take_run-run.result.from in
    let end = c.take_run-run.result.end in
    let run = c.take_run-run.ensures.run in
    let found = run-found tasks unhanded c.args.most from end c.self.invariant.are_unhanded run in
    let all = run.all in
    let order = run.order in
    let long : length unhanded ≡ length tasks = ap (λ (ms : List Bool). length ms) c.self.invariant.are_unhanded ∙ length-map tasks is_unhanded in
    subst (λ (ts : List Status). IsCounted ts c.take_run-run.new.self (c.self.inside.out + (end - from)) c.self.inside.undone) (sym c.set_run.ensures)
    (taken-counted tasks unhanded c.take_run-run.new.self c.self.inside.out c.self.inside.undone from (end - from) c.self.invariant
    (omega (arith, all, order, long)) (λ u le lt. found.unhanded u le (omega (arith, lt, order))) c.take_run-run.ensures.new)

pub returns-clause-run : goal.returns-clause-run
returns-clause-run c =
    subst (λ (ts : List Status). IsNextRun ts c.args.most c.take_run-run.result.from c.take_run-run.result.end) c.self.view_is
    (run-found c.self.inside.list c.self.inside.unhanded c.args.most c.take_run-run.result.from c.take_run-run.result.end c.self.invariant.are_unhanded c.take_run-run.ensures.run)
