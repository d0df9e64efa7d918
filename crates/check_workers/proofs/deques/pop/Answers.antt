use Rattle.check_workers.proofs.Items.{takes, pops}
use Rattle.check_workers.proofs.deques.pop.Goals as goal

pub pop_as-requires-clause-fifo : goal.pop_as-requires-clause-fifo
pop_as-requires-clause-fifo g c = λ _. takes g.J.Tasks.tasks _ tt 1

pub pop_as-requires-clause-lifo : goal.pop_as-requires-clause-lifo
pop_as-requires-clause-lifo g c = λ _. pops g.J.Tasks.tasks _ tt
