use Rattle.std.proofs.Common.{◌≡◌, ◌≤◌, ℕ, List, length, sym, ap, subst, ◌∙◌}
use Rattle.std.proofs.Math.Logic.{∥∥₁_elim}
use Rattle.std.proofs.Props.{props}
use Rattle.std.proofs.lemmas.Result.{MatchResult-weaker}
use Rattle.block.specs.declared.block.Block.{Block}
use Rattle.block.specs.Limits.{max_txs}
use Rattle.next_block.proofs.NextDeltas.{count-job, is_next}
use Rattle.next_block.proofs.Taken.{as_many, few, few-tentative}
use Rattle.next_block.specs.Taken.{IsTaken}
use Rattle.rules.specs.declared.answer.Refused.{Refused}
use Rattle.rules.specs.Commit.{items_of}
use Rattle.rules.specs.Job.{Job}
use Rattle.rules.specs.Linked.{IsRefused}
use Rattle.ledger.proofs.serial.prepared_delta.Goals as goal

pub flag_duplicates-requires-clause-count : goal.flag_duplicates-requires-clause-count
flag_duplicates-requires-clause-count c =
    ∥∥₁_elim c.requires.made (search props) (λ p. as_many p.is.taken c.args.prepared.tentative p.is.tentative)

pub flag_duplicates-requires-clause-few : goal.flag_duplicates-requires-clause-few
flag_duplicates-requires-clause-few c =
    ∥∥₁_elim c.requires.made (search props) (λ p. few-tentative p.is.taken c.args.prepared.tentative (few _ _ _ _ _ p.is.is_taken) p.is.tentative)

pub delta_of_job-requires-clause-ids : goal.delta_of_job-requires-clause-ids
delta_of_job-requires-clause-ids c =
    let channel = c.args.channel.now in
    let b = c.args.prepared.block in
    let marked = c.in_ok-key_writers.ensures in
    ∥∥₁_elim c.requires.made (search props) (λ p.
    count-job channel p.accepts c.args.world.now b c.job_over-job.result c.as_slice.result.now
    (c.job_over-job.ensures ∙ marked.job channel p.is.taken p.is.tentative c.requires.names p.accepts (items_of b) p.is.is_taken.taken)
    (c.as_slice.ensures.value ∙ marked.ids channel p.is.taken p.is.tentative p.accepts (items_of b) p.is.is_taken.taken))

pub delta_of_job-requires-clause-few : goal.delta_of_job-requires-clause-few
delta_of_job-requires-clause-few c =
    let marked = c.in_ok-key_writers.ensures in
    let count = delta_of_job-requires-clause-ids c ∙ ap (λ (j : Job). length j.candidates) c.job_over-job.ensures in
    subst (λ n. n ≤ max_txs) (sym count) marked.few

pub returns : goal.returns
returns c = λ accepts bytes prepared.
    let channel = c.args.channel.now in
    let w = c.args.world.now in
    let b = c.in_ok-block.block in
    let next = c.in_ok-block.ensures in
    let is : IsTaken channel accepts bytes b prepared.taken =
    subst (λ (x : Block). IsTaken channel accepts bytes x prepared.taken) (sym next.0) prepared.is_taken in
    let marked = c.in_ok-key_writers.ensures in
    MatchResult-weaker c.delta_of_job.result c.delta_of_job.ensures
    (λ d delta. is_next channel accepts w bytes c.args.prepared.bytes b c.job_over-job.result c.as_slice.result.now c.commit_hash.result d prepared.kept is.spelled next.1
    (c.job_over-job.ensures ∙ marked.job channel prepared.taken prepared.tentative c.requires.names accepts (items_of b) is.taken) (c.as_slice.ensures.value ∙ marked.ids channel prepared.taken prepared.tentative accepts (items_of b) is.taken) c.commit_hash.ensures delta)
    (λ refused memory. subst (λ (r : Refused). IsRefused w bytes r) (sym memory) tt)
