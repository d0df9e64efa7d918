use Rattle.std.proofs.Common.{List, subst}
use Rattle.std.specs.Prelude.{MatchOption}
use Rattle.task_desk.specs.declared.status.Status.{Status}
use Rattle.task_desk.specs.Desk.{NoneUnhanded, IsNext}
use Rattle.task_desk.proofs.Counting.{unhanded-found}
use Rattle.task_desk.proofs.statuses.Statuses.first_unhanded.Goals as goal

pub returns : goal.returns
returns c =
    subst (λ (tasks : List Status). MatchOption c.first.result (NoneUnhanded tasks) (λ t. IsNext tasks t)) c.self.view_is
    (unhanded-found c.self.inside.list c.self.inside.unhanded c.first.result c.self.invariant.are_unhanded c.first.ensures)
