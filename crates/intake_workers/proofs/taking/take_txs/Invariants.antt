use Rattle.std.proofs.Common.{◌≡◌, map, take}
use Rattle.transaction.specs.Items.{item_of}
use Rattle.intake.specs.Place.{taken_of, shown}
use Rattle.intake_workers.proofs.taking.take_txs.Given as goal

abbrev pub invariant-loop-bytes : goal.invariant-loop-bytes
invariant-loop-bytes g l = map shown l.all.items ≡ map (taken_of l.rules.channel.now (g.V.Verify.accepts l.rules.verifier.now)) (map (item_of l.version) (take l.bytes-index l.txs))
