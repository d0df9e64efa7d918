use Rattle.dependency.proofs.Stepping.{flag_is_set}
use Rattle.std.proofs.Common.{ap}
use Rattle.dependency.proofs.checking.set_flag.Goals as goal

pub returns : goal.returns
returns c = flag_is_set c.args.board.now c.set.new.self c.args.i _ c.args.flag (ap (λ x. x.endorsed) c.cells-cells.ensures) c.set.ensures
