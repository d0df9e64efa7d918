use Rattle.std.proofs.lemmas.Result.{err_from_is_err_and}
use Rattle.ledger.proofs.serial.next_block.Goals as goal

pub returns-in_err-decoded : goal.returns-in_err-decoded
returns-in_err-decoded c =
    let p = err_from_is_err_and c.from_residual.result c.from_residual.ensures.1 in
    rw (p.1, p.2) (c.in_err-decoded.ensures c.args.world.now)
