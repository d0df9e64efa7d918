use Rattle.std.proofs.Common.{Bool, ◌+◌, ◌∙◌, ap, sym, subst, arith, slice_index_or}
use Rattle.std.proofs.lemmas.Result.{IfOk-weaker}
use Rattle.channel.specs.Configuration.{Configuration}
use Rattle.commit.specs.Prepared.{MayBeTakenIn}
use Rattle.commit.specs.Running.{BelongsTo, committing, SubmitsTo}
use Rattle.commit.proofs.TakenAhead.{waits}
use Rattle.commit.proofs.Telling.{IsRun-more, IsEndedRun-at}
use Rattle.commit.proofs.running.commit_taken_in.Goals as goal

pub commit_next-requires-clause-waits : goal.commit_next-requires-clause-waits
commit_next-requires-clause-waits g c κs within w =
    let before = c.loop-bytes.invariant in
    let accepts = g.V.Verify.accepts in
    let alone = c.alone-alone in
    let item = c.bytes-item.result in
    let at = c.bytes-item.is ∙ (λ i. slice_index_or (sym before.blocks i) (sym before.taken i) item) in
    waits alone.result.channel.now (accepts alone.result.verifier.now) item c.next.result c.ok-next.result w c.ok-next.ensures.value
    (IfOk-weaker c.next.result _ _
    (λ taken made. subst (λ x. x) (λ i. MayBeTakenIn (sym alone.ensures.channel i) (accepts (sym alone.ensures.verifier i)) item taken)
    (subst (λ context. MayBeTakenIn context.channel.now (accepts context.verifier.now) item taken) before.context (made.1 item at)))
    c.next.ensures.made)

pub returns-then-not-commit_next-clause-told : goal.returns-then-not-commit_next-clause-told
returns-then-not-commit_next-clause-told g c =
    let channel = c.args.context.now.channel.now in
    let accepts = g.V.Verify.accepts in
    let alone = c.alone-alone in
    let item = c.bytes-item.result in
    let step = c.commit_next.ensures.submits in
    let old_run = c.loop-bytes.run in
    let new_run = c.commit_next.new.self in
    let submits = subst (λ x. x) (λ i. SubmitsTo (alone.ensures.channel i) (accepts (alone.ensures.verifier i)) old_run.published.now item step.0 new_run.published.now) step.1 in
    let ends = subst (λ (asks : Bool). goal.F-step g old_run.tell.now step.0 asks new_run.tell.now) c.if-not-commit_next.true step.2 in
    IsEndedRun-at (goal.F-step g) (accepts c.args.context.now.verifier.now) (committing channel c.args.run.now.published.now) (committing channel old_run.published.now) (committing channel new_run.published.now) c.args.blocks.now c.loop-bytes.bytes-index item c.args.run.now.tell.now old_run.tell.now new_run.tell.now step.0
    (omega (arith, c.loop-bytes-test.true)) c.bytes-item.is c.loop-bytes.invariant.run submits ends

pub returns-then-not-commit_next-clause-belongs : goal.returns-then-not-commit_next-clause-belongs
returns-then-not-commit_next-clause-belongs g c =
    subst (λ (channel : Configuration). BelongsTo channel c.commit_next.new.self.published.now) c.alone-alone.ensures.channel c.commit_next.ensures.belongs

pub loop-bytes-preserved : goal.loop-bytes-preserved
loop-bytes-preserved g c =
    let before = c.loop-bytes.invariant in
    let channel = c.args.context.now.channel.now in
    let accepts = g.V.Verify.accepts in
    let alone = c.alone-alone in
    let item = c.bytes-item.result in
    let step = c.commit_next.ensures.submits in
    let old_run = c.loop-bytes.run in
    let new_run = c.commit_next.new.self in
    let submits = subst (λ x. x) (λ i. SubmitsTo (alone.ensures.channel i) (accepts (alone.ensures.verifier i)) old_run.published.now item step.0 new_run.published.now) step.1 in
    let asks = subst (λ (asks : Bool). goal.F-step g old_run.tell.now step.0 asks new_run.tell.now) c.if-not-commit_next.false step.2 in
    record {
      run = IsRun-more (goal.F-step g) (accepts c.args.context.now.verifier.now) (committing channel c.args.run.now.published.now) (committing channel old_run.published.now) (committing channel new_run.published.now) c.args.blocks.now c.loop-bytes.bytes-index item c.args.run.now.tell.now old_run.tell.now new_run.tell.now step.0
          (omega (arith, c.loop-bytes-test.true)) c.bytes-item.is before.run submits asks;
      blocks = c.next.ensures.pieces ∙ before.blocks;
      context = c.next.ensures.work ∙ before.context;
      taken = c.next.ensures.taken ∙ ap (λ n. n + 1) before.taken;
      belongs = subst (λ (channel : Configuration). BelongsTo channel new_run.published.now) alone.ensures.channel c.commit_next.ensures.belongs;
      callable = c.commit_next.ensures.callable;
      lent = c.commit_next.ensures.lent ∙ before.lent;
      tell = c.commit_next.ensures.tell ∙ before.tell;
    }
