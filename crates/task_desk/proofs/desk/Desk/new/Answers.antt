use Rattle.std.proofs.Common.{subst, sym, ◌*◌, arith}
use Rattle.task_desk.specs.Desk.{IsDesk}
use Rattle.task_desk.proofs.Keeping.{new-desk}
use Rattle.task_desk.proofs.Parking.{new-waiting}
use Rattle.task_desk.proofs.desk.Desk.new.Goals as goal

pub invariant_of-result : goal.invariant_of-result
invariant_of-result c = (
  subst IsDesk (sym c.in_ok-new.ensures) (new-desk c.args.n),
  new-waiting (2 * c.args.n) c.in_ok-new.field-0 c.in_ok-new-2.field-0 (omega (arith, c.requires)) c.in_ok-new.ensures c.in_ok-new-2.ensures,
)
