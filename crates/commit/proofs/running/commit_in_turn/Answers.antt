use Rattle.std.proofs.Common.{Bool, subst, arith, ◌∙◌}
use Rattle.commit.specs.Running.{committing}
use Rattle.commit.proofs.Telling.{IsRun-more, IsEndedRun-at}
use Rattle.commit.proofs.running.commit_in_turn.Goals as goal

pub returns-then-not-commit_next-clause-told : goal.returns-then-not-commit_next-clause-told
returns-then-not-commit_next-clause-told g c =
    let channel = c.args.context.now.channel.now in
    let accepts = g.V.Verify.accepts c.args.context.now.verifier.now in
    let item = c.bytes-item.result in
    let step = c.commit_next.ensures.submits in
    let old_run = c.loop-bytes.run in
    let new_run = c.commit_next.new.self in
    let ends = subst (λ (asks : Bool). goal.F-step g old_run.tell.now step.0 asks new_run.tell.now) c.if-not-commit_next.true step.2 in
    IsEndedRun-at (goal.F-step g) accepts (committing channel c.args.run.now.published.now) (committing channel old_run.published.now) (committing channel new_run.published.now) c.args.blocks.now c.loop-bytes.bytes-index item c.args.run.now.tell.now old_run.tell.now new_run.tell.now step.0
    (omega (arith, c.loop-bytes-test.true)) c.bytes-item.is c.loop-bytes.invariant.run step.1 ends

pub loop-bytes-preserved : goal.loop-bytes-preserved
loop-bytes-preserved g c =
    let before = c.loop-bytes.invariant in
    let channel = c.args.context.now.channel.now in
    let accepts = g.V.Verify.accepts c.args.context.now.verifier.now in
    let item = c.bytes-item.result in
    let step = c.commit_next.ensures.submits in
    let old_run = c.loop-bytes.run in
    let new_run = c.commit_next.new.self in
    let asks = subst (λ (asks : Bool). goal.F-step g old_run.tell.now step.0 asks new_run.tell.now) c.if-not-commit_next.false step.2 in
    record {
      run = IsRun-more (goal.F-step g) accepts (committing channel c.args.run.now.published.now) (committing channel old_run.published.now) (committing channel new_run.published.now) c.args.blocks.now c.loop-bytes.bytes-index item c.args.run.now.tell.now old_run.tell.now new_run.tell.now step.0
          (omega (arith, c.loop-bytes-test.true)) c.bytes-item.is before.run step.1 asks;
      belongs = c.commit_next.ensures.belongs;
      callable = c.commit_next.ensures.callable;
      lent = c.commit_next.ensures.lent ∙ before.lent;
      tell = c.commit_next.ensures.tell ∙ before.tell;
    }
