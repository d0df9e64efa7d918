use Rattle.check_workers.proofs.Items.{takes}
use Rattle.check_workers.proofs.deques.steal_from.Goals as goal

pub steal_as-requires-clause-takes : goal.steal_as-requires-clause-takes
steal_as-requires-clause-takes g c = takes g.J.Tasks.tasks _ tt 1
