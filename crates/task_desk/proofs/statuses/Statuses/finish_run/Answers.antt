use Rattle.std.proofs.Common.{◌-◌, ◌≤◌, List, length, sym, subst, arith}
use Rattle.task_desk.specs.declared.status.Status.{Status}
use Rattle.task_desk.specs.Counted.{IsCounted}
use Rattle.task_desk.proofs.Counting.{finished-counted}
use Rattle.task_desk.proofs.statuses.Statuses.finish_run.Goals as goal

pub overflow_sub-self : goal.overflow_sub-self
overflow_sub-self c =
    let inside : c.args.run.end ≤ length c.self.inside.list = let end = c.if-run-len.false in let long = c.len.ensures in omega (arith, end, long) in
    (finished-counted c.self.inside.list c.self.inside.unhanded c.self.inside.out c.self.inside.undone c.args.run.from c.args.run.end c.self.invariant c.if-run.false inside (c.is_run.ensures c.if-not-is_run.false)).0

pub overflow_sub-self-2 : goal.overflow_sub-self-2
overflow_sub-self-2 c =
    let inside : c.args.run.end ≤ length c.self.inside.list = let end = c.if-run-len.false in let long = c.len.ensures in omega (arith, end, long) in
    (finished-counted c.self.inside.list c.self.inside.unhanded c.self.inside.out c.self.inside.undone c.args.run.from c.args.run.end c.self.invariant c.if-run.false inside (c.is_run.ensures c.if-not-is_run.false)).1.0

pub invariant_of-self : goal.invariant_of-self
invariant_of-self c =
    let inside : c.args.run.end ≤ length c.self.inside.list = let end = c.if-run-len.false in let long = c.len.ensures in omega (arith, end, long) in
    subst (λ (ts : List Status). IsCounted ts c.self.inside.unhanded (c.self.inside.out - (c.args.run.end - c.args.run.from)) (c.self.inside.undone - (c.args.run.end - c.args.run.from))) (sym c.set_run.ensures)
    (finished-counted c.self.inside.list c.self.inside.unhanded c.self.inside.out c.self.inside.undone c.args.run.from c.args.run.end c.self.invariant c.if-run.false inside (c.is_run.ensures c.if-not-is_run.false)).1.1
