use Rattle.std.proofs.Common.{refl}
use Rattle.task_desk.specs.Status.{is_out}
use Rattle.task_desk.proofs.StatusAt.{inside}
use Rattle.task_desk.proofs.Keeping.{new-desk, taken-desk, handed-desk, with_parked-desk, with_done-desk}
use Rattle.task_desk.proofs.laws.calls_keep_a_desk.Goals as goal

pub returns : goal.returns
returns c = record {
  new = new-desk;
  taken = taken-desk;
  handed = handed-desk;
  parked = with_parked-desk;
  done = λ tasks t desk out. with_done-desk tasks t desk (inside is_out tasks t refl out);
}
