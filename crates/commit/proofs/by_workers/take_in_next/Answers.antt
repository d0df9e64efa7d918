use Rattle.std.proofs.lemmas.Result.{err_from_is_err_and}
use Rattle.commit.proofs.by_workers.take_in_next.Goals as goal

pub returns-in_err-decoded : goal.returns-in_err-decoded
returns-in_err-decoded g c =
    let back = err_from_is_err_and c.from_residual.result c.from_residual.ensures.1 in
    rw (back.1, back.2) (c.in_err-decoded.ensures c.args.world.now)
