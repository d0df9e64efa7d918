use Rattle.std.proofs.Common.{◌≡◌, ◌<◌, length, true, false, Some, arith}
use Rattle.std.specs.Prelude.{is_some}
use Rattle.key_chains.specs.Cells.{cells_at}
use Rattle.dependency.proofs.Stepping.{reads_decide, reads_wait}
use Rattle.dependency.proofs.checking.check_reads.Goals as goal

pub returns-in-Sure : goal.returns-in-Sure
returns-in-Sure c =
    let lt : c.args.i < length c.args.job.now.candidates = omega (arith, c.len.ensures.value) in
    let none : is_some (cells_at c.args.board.now c.args.i).flag ≡ false = cc in
    let endorsed : (cells_at c.args.board.now c.args.i).endorsed ≡ Some true = cc in
    reads_decide c.args.job.now c.args.i c.args.board.now c.decide.new.board _ c.in-Sure.verdict c.flag.result lt none endorsed c.in-Sure.ensures.moves c.in-Sure.ensures.decision c.flag.ensures c.set_flag.ensures

pub returns-in_default : goal.returns-in_default
returns-in_default c =
    let lt : c.args.i < length c.args.job.now.candidates = omega (arith, c.len.ensures.value) in
    let none : is_some (cells_at c.args.board.now c.args.i).flag ≡ false = cc in
    let endorsed : (cells_at c.args.board.now c.args.i).endorsed ≡ Some true = cc in
    reads_wait c.args.job.now c.args.i c.args.board.now c.decide.new.board c.in_default.field-0 lt none endorsed c.in_default.ensures.moves c.in_default.ensures.decision
