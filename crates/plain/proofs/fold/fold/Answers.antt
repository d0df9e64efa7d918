use Rattle.std.proofs.Common.{◌≡◌, length, subst, arith}
use Rattle.std.specs.Option.{option_copied}
use Rattle.plain.specs.Seen.{job_over}
use Rattle.plain.specs.Taking.{IsRunning}
use Rattle.plain.proofs.Folding.{running-first, running-more, folded-all}
use Rattle.plain.proofs.fold.fold.Goals as goal

pub loop-tx-init : goal.loop-tx-init
loop-tx-init c =
    running-first (option_copied c.args.admin) c.args.world.now.definitions c.args.block c.args.world.now.state c.args.candidates.now c.new-running.result c.new-running.ensures.touched c.new-running.ensures.changes c.new-running.ensures.entries c.new-running.ensures.definitions c.new-running.ensures.flags

pub loop-tx-preserved : goal.loop-tx-preserved
loop-tx-preserved c =
    running-more (option_copied c.args.admin) c.args.world.now.definitions c.args.block c.args.world.now.state c.args.candidates.now c.loop-tx.tx c.index-candidates-tx.result c.loop-tx.running c.take.new.self c.loop-tx-test.true c.index-candidates-tx.is c.loop-tx.invariant
    c.in_ok-take.ensures.taken
    c.in_ok-take.ensures.flags

pub returns : goal.returns
returns c =
    let end : c.loop-tx.tx ≡ length c.args.candidates.now = omega (arith, c.loop-tx-test.false, c.loop-tx.auto.tx-end) in
    folded-all (option_copied c.args.admin) c.args.world.now.definitions c.args.block c.args.world.now.state c.args.candidates.now c.loop-tx.running
    (subst (λ n. IsRunning (job_over (option_copied c.args.admin) c.args.world.now.definitions c.args.block c.args.world.now.state c.args.candidates.now) n c.loop-tx.running) end c.loop-tx.invariant)
