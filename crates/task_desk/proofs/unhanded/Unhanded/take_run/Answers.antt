use Rattle.std.proofs.Common.{◌≡◌, ◌+◌, ◌-◌, Bool, List, false, ap, sym, subst, ◌∙◌, arith}
use Rattle.task_desk.specs.Unhanded.{with_fresh, IsFirstRun}
use Rattle.task_desk.specs.Runs.{with_run}
use Rattle.task_desk.proofs.Grouping.{member-below}
use Rattle.task_desk.proofs.InRuns.{run-one}
use Rattle.task_desk.proofs.Fresh.{set-before, fresh-run, fresh-leave, other-run, other-before}
use Rattle.task_desk.proofs.unhanded.Unhanded.take_run.Goals as goal

pub returns-in-Some-clause-run : goal.returns-in-Some-clause-run
returns-in-Some-clause-run c =
    subst (λ (xs : List Bool). IsFirstRun xs c.args.most c.in-Some.task (c.in-Some.task + 1)) c.self.view_is
    (other-run c.self.inside.others c.self.inside.fresh c.self.inside.count c.args.most c.in-Some.task c.self.inside.has_others c.self.invariant c.requires c.in-Some.ensures)

pub returns-in-Some-clause-new : goal.returns-in-Some-clause-new
returns-in-Some-clause-new c =
    let others = c.self.inside.others in
    let fresh = c.self.inside.fresh in
    let t = c.in-Some.task in
    ap (λ (xs : List Bool). with_fresh xs fresh) c.set.ensures
    ∙ set-before others fresh t false (other-before others fresh c.self.inside.count t c.self.inside.has_others c.self.invariant c.in-Some.ensures) (member-below others t c.in-Some.ensures.member)
    ∙ sym (run-one false (with_fresh others fresh) t)
    ∙ ap (λ (xs : List Bool). with_run false xs t (t + 1 - t)) c.self.view_is

pub returns-clause-run : goal.returns-clause-run
returns-clause-run c =
    let bound = c.self.invariant.bound in
    let some = c.requires in
    let is = c.min.ensures in
    subst (λ (xs : List Bool). IsFirstRun xs c.args.most c.self.inside.fresh (c.self.inside.fresh + c.min.result)) c.self.view_is
    (fresh-run c.self.inside.others c.self.inside.fresh c.self.inside.count c.args.most c.min.result c.self.inside.has_others c.self.invariant c.in_default.ensures
    (omega (arith, bound, is)) (omega (arith, is)) (λ none. omega (arith, bound, is, some, none)))

pub returns-clause-new : goal.returns-clause-new
returns-clause-new c =
    let bound = c.self.invariant.bound in
    let is = c.min.ensures in
    let fresh = c.self.inside.fresh in
    let n = c.min.result in
    let count : n ≡ fresh + n - fresh = omega arith in
    fresh-leave c.self.inside.others fresh c.self.inside.count n c.self.inside.has_others c.self.invariant (omega (arith, bound, is))
    ∙ (λ k. with_run false (c.self.view_is k) fresh (count k))
