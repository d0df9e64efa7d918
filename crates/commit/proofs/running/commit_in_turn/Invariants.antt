use Rattle.std.proofs.Common.{◌≡◌, take}
use Rattle.commit.specs.Running.{BelongsTo, committing}
use Rattle.commit.specs.Telling.{IsRun}
use Rattle.commit.proofs.running.commit_in_turn.Given as goal

-- so many are committed
abbrev pub invariant-loop-bytes : goal.invariant-loop-bytes
invariant-loop-bytes g l = record {
  run : IsRun (goal.F-step g) (g.V.Verify.accepts l.context.verifier.now) (committing l.context.channel.now l.fn.run.published.now) (take l.bytes-index l.blocks) l.fn.run.tell.now (committing l.context.channel.now l.run.published.now) l.run.tell.now;
  belongs : BelongsTo l.context.channel.now l.run.published.now;
  callable : goal.F-IsAlwaysCallable g l.run.tell.now;
  lent : l.run.published.ghost_name ≡ l.fn.run.published.ghost_name;
  tell : l.run.tell.ghost_name ≡ l.fn.run.tell.ghost_name;
}
