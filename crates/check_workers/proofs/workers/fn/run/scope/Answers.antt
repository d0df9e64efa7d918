use contract.Lifetimes.{Lfts}
use denote.Param.{param}
use denote.Param.Send.{IsSend, IsSync}
use Rattle.atomic_table.proofs.shared.Shared.TheSendSync as steps
use Rattle.check_workers.proofs.turns.Turns.TheSendSync as turns
use Rattle.check_workers.proofs.Crossing.{crossing, job_sync}
use Rattle.check_workers.proofs.DequeEnds.{owner_send, thief_sync}
use Rattle.check_workers.proofs.workers.fn.run.scope.Given.{Over}
use Rattle.check_workers.proofs.workers.fn.run.scope.Lts.{arg-2-1}
use Rattle.check_workers.proofs.workers.fn.run.scope.Goals as goal

-- apart from the goal, whose hypotheses have too many records for `search`
worker_send : (g : Over) → IsSync (param 1 g.row.R) → IsSync (param 2 g.row.G) → (κs : Lfts 14)
    → IsSend (param 1 (arg-2-1 g.row.J g.row.R g.row.G g.J.laws g.R.laws g.G.laws g.J.Tasks g.J.Tasks-dict g.R.Threads g.R.Threads-dict g.R.Wait g.R.Wait-dict g.G.Gate g.G.Gate-dict κs))
worker_send g r w κs = search (crossing, job_sync, steps.the_sync, turns.the_sync, owner_send, thief_sync) depth 40 fits 100000

pub spawn-requires-send-F : goal.spawn-requires-send-F
spawn-requires-send-F g c = let bounds = c.requires-raw.1.1.1.1.1 in λ κs laws. worker_send g bounds.0 bounds.1.0 κs
