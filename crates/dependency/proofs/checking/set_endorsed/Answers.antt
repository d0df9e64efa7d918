use Rattle.dependency.proofs.Stepping.{endorsement_is_set}
use Rattle.std.proofs.Common.{ap}
use Rattle.dependency.proofs.checking.set_endorsed.Goals as goal

pub returns : goal.returns
returns c = endorsement_is_set c.args.board.now c.set.new.self c.args.i c.args.endorsed _ (ap (λ x. x.flag) c.cells-cells.ensures) c.set.ensures
