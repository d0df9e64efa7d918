use Rattle.std.proofs.Common.{◌≤◌, length, sym, ap, subst, ◌∙◌}
use Rattle.std.proofs.lemmas.Result.{MatchResult-weaker}
use Rattle.block.specs.declared.block.Block.{Block}
use Rattle.block.specs.Limits.{max_txs}
use Rattle.next_block.proofs.NextDeltas.{count-job, is_next}
use Rattle.next_block.proofs.Taken.{as_many, few, few-tentative}
use Rattle.next_block.specs.Taken.{IsTaken}
use Rattle.rules.specs.declared.answer.Refused.{Refused}
use Rattle.rules.specs.Commit.{items_of}
use Rattle.rules.specs.Job.{Job}
use Rattle.rules.specs.Linked.{IsRefused}
use Rattle.commit.proofs.by_workers.next_delta.Goals as goal

pub flag_duplicates-requires-clause-count : goal.flag_duplicates-requires-clause-count
flag_duplicates-requires-clause-count g c =
    let is = c.requires.prepared in
    as_many is.taken c.args.prepared.tentative is.tentative

pub flag_duplicates-requires-clause-few : goal.flag_duplicates-requires-clause-few
flag_duplicates-requires-clause-few g c =
    let is = c.requires.prepared in
    few-tentative is.taken c.args.prepared.tentative (few _ _ _ _ _ is.is_taken) is.tentative

pub checked_delta-delta-requires-clause-ids : goal.checked_delta-delta-requires-clause-ids
checked_delta-delta-requires-clause-ids g c κs within =
    let channel = c.args.context.now.channel.now in
    let accepts = g.V.Verify.accepts c.args.context.now.verifier.now in
    let b = c.args.prepared.block in
    let prepared = c.requires.prepared in
    let taken = prepared.is_taken.taken in
    let marked = c.in_ok-key_writers.ensures in
    count-job channel accepts c.args.world.now b c.job_over-job.result c.as_slice.result.now (c.job_over-job.ensures ∙ marked.job channel prepared.taken prepared.tentative c.requires.names accepts (items_of b) taken)
    (c.as_slice.ensures.value ∙ marked.ids channel prepared.taken prepared.tentative accepts (items_of b) taken)

pub checked_delta-delta-requires-clause-few : goal.checked_delta-delta-requires-clause-few
checked_delta-delta-requires-clause-few g c κs within =
    let marked = c.in_ok-key_writers.ensures in
    let count = checked_delta-delta-requires-clause-ids g c κs within ∙ ap (λ (j : Job). length j.candidates) c.job_over-job.ensures in
    subst (λ n. n ≤ max_txs) (sym count) marked.few

pub returns : goal.returns
returns g c =
    let channel = c.args.context.now.channel.now in
    let accepts = g.V.Verify.accepts c.args.context.now.verifier.now in
    let w = c.args.world.now in
    let bytes = c.args.bytes.now in
    let b = c.in_ok-block.block in
    let next = c.in_ok-block.ensures in
    let prepared = c.requires.prepared in
    let is : IsTaken channel accepts bytes b prepared.taken =
    subst (λ (x : Block). IsTaken channel accepts bytes x prepared.taken) (sym next.0) prepared.is_taken in
    let marked = c.in_ok-key_writers.ensures in
    MatchResult-weaker c.checked_delta-delta.result c.checked_delta-delta.ensures
    (λ r delta. is_next channel accepts w bytes c.args.prepared.bytes b c.job_over-job.result c.as_slice.result.now c.commit_hash.result r.0 prepared.kept is.spelled next.1
    (c.job_over-job.ensures ∙ marked.job channel prepared.taken prepared.tentative c.requires.names accepts (items_of b) is.taken) (c.as_slice.ensures.value ∙ marked.ids channel prepared.taken prepared.tentative accepts (items_of b) is.taken) c.commit_hash.ensures delta)
    (λ refused memory. subst (λ (r : Refused). IsRefused w bytes r) (sym memory) tt)
