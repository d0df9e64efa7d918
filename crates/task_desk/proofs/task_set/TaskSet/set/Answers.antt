use Rattle.std.proofs.Common.{◌<◌, ◌/◌, ◌∙◌, List, Bool, length, sym, ap, subst, arith}
use Rattle.std.specs.Prelude.{MatchOption, slice_set}
use Rattle.task_desk.specs.Groups.{NoneIn, IsFirstIn, IsIndexed}
use Rattle.task_desk.proofs.Grouping.{set-indexed}
use Rattle.task_desk.proofs.task_set.TaskSet.set.Goals as goal

pub invariant_of-self : goal.invariant_of-self
invariant_of-self c =
    let members = c.self.inside.members in
    let group = c.args.task / 64 in
    let lt : c.args.task < length members = omega (arith, c.requires, ap (λ (ms : List Bool). length ms) c.self.view_is) in
    let look = subst (λ (ms : List Bool). MatchOption c.first_of.result (NoneIn ms group) (λ k. IsFirstIn ms group k)) c.set.ensures c.first_of.ensures in
    subst (λ (ms : List Bool). IsIndexed ms c.set-2.new.self) (sym c.set.ensures)
    (subst (IsIndexed _) (sym (c.set-2.ensures ∙ ap (λ b. slice_set c.self.inside.filled group b) c.is_some.ensures))
    (set-indexed members c.self.inside.filled c.args.task c.args.member c.first_of.result c.self.invariant lt look))
