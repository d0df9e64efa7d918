use Rattle.std.proofs.Common.{List, Bool, subst}
use Rattle.std.specs.Prelude.{MatchOption}
use Rattle.task_desk.specs.Bits.{IsLeast, IsEmpty}
use Rattle.task_desk.proofs.Grouping.{least_of_group}
use Rattle.task_desk.proofs.task_set.TaskSet.first.Goals as goal

pub returns : goal.returns
returns c =
    subst (λ (ms : List Bool). MatchOption c.first_of.result (IsEmpty ms) (λ t. IsLeast ms t)) c.self.view_is
    (least_of_group c.self.inside.members c.self.inside.filled c.in-Some.group c.first_of.result c.self.invariant c.in-Some.ensures c.first_of.ensures)
