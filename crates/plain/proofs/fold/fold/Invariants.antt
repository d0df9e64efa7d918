use Rattle.std.specs.Option.{option_copied}
use Rattle.plain.specs.Seen.{job_over}
use Rattle.plain.specs.Taking.{IsRunning}
use Rattle.plain.proofs.fold.fold.Given as goal

abbrev pub invariant-loop-tx : goal.invariant-loop-tx
invariant-loop-tx l = IsRunning (job_over (option_copied l.admin) l.world.definitions l.block l.world.state l.candidates) l.tx l.running
