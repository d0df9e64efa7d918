use native.Mathlib.Omega.{arith}
use Rattle.intake_workers.proofs.Parts.{behind_first, no_longer}
use Rattle.intake_workers.proofs.taken_part.txs_of.Goals as goal

pub loop-preserved : goal.loop-preserved
loop-preserved c =
    let rest = c.loop.rest.now in
    let len = c.len_of_first-len.result in (
      omega (arith, c.loop.invariant.0, c.loop-test.true),
      behind_first c.loop.left c.args.part.number c.loop.counter len rest _ c.loop-test.true c.len_of_first-len.ensures.len c.loop.invariant.1,
      no_longer len _ rest c.loop.invariant.2,
    )
