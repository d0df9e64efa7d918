use Rattle.std.proofs.Common.{◌≡◌, ◌<◌, length, false, arith}
use Rattle.std.specs.Prelude.{is_some}
use Rattle.key_chains.specs.Cells.{cells_at}
use Rattle.dependency.proofs.Stepping.{endorse_decides, endorse_waits}
use Rattle.dependency.proofs.checking.check_endorsement.Goals as goal

pub returns-in-Sure : goal.returns-in-Sure
returns-in-Sure c =
    let lt : c.args.i < length c.args.job.now.candidates = omega (arith, c.len.ensures.value) in
    let none : is_some (cells_at c.args.board.now c.args.i).endorsed ≡ false = cc in
    endorse_decides c.args.job.now c.args.i c.args.board.now c.decide.new.board _ c.in-Sure.endorsed lt none c.in-Sure.ensures.moves c.in-Sure.ensures.decision c.set_endorsed.ensures

pub returns-in_default : goal.returns-in_default
returns-in_default c =
    let lt : c.args.i < length c.args.job.now.candidates = omega (arith, c.len.ensures.value) in
    let none : is_some (cells_at c.args.board.now c.args.i).endorsed ≡ false = cc in
    let h = c.in_default.ensures.decision in
    endorse_waits c.args.job.now c.args.i c.args.board.now c.decide.new.board c.in_default.field-0 lt none c.in_default.ensures.moves c.in_default.ensures.decision
