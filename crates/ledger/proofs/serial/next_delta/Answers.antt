use Rattle.std.proofs.Common.{sym, subst, ◌∙◌}
use Rattle.std.proofs.lemmas.Result.{MatchResult-weaker}
use Rattle.block.specs.Grammar.{bytes_of}
use Rattle.rules.specs.declared.answer.Refused.{Refused}
use Rattle.rules.specs.Commit.{items_of}
use Rattle.rules.specs.Linked.{IsRefused}
use Rattle.next_block.proofs.NextDeltas.{count-job, is_next}
use Rattle.next_block.proofs.Taken.{few}
use Rattle.ledger.proofs.serial.next_delta.Goals as goal

pub job_of-requires : goal.job_of-requires
job_of-requires g c = few _ _ _ _ _ c.in_ok-block.ensures.is_taken

pub delta_in_order-requires-clause-ids : goal.delta_in_order-requires-clause-ids
delta_in_order-requires-clause-ids g c =
    let channel = c.args.channel.now in
    let accepts = g.V.Verify.accepts c.args.verifier.now in
    let b = c.in_ok-block.block in
    let taken = c.in_ok-block.ensures.is_taken.taken in
    count-job channel accepts c.args.world.now b c.in_ok-job.job c.as_slice.result.now (c.in_ok-job.ensures.job c.requires accepts (items_of b) taken)
    (c.as_slice.ensures.value ∙ c.in_ok-job.ensures.ids accepts (items_of b) taken)

pub returns : goal.returns
returns g c =
    let channel = c.args.channel.now in
    let accepts = g.V.Verify.accepts c.args.verifier.now in
    let w = c.args.world.now in
    let bytes = c.args.bytes.now in
    let b = c.in_ok-block.block in
    let next = c.in_ok-block.ensures in
    let taken = next.is_taken.taken in
    MatchResult-weaker c.delta_in_order.result c.delta_in_order.ensures
    (λ d is. is_next channel accepts w bytes (bytes_of b) b c.in_ok-job.job c.as_slice.result.now c.commit_hash.result d (sym next.is_taken.spelled.fields) next.is_taken.spelled next.linked
    (c.in_ok-job.ensures.job c.requires accepts (items_of b) taken) (c.as_slice.ensures.value ∙ c.in_ok-job.ensures.ids accepts (items_of b) taken) c.commit_hash.ensures is)
    (λ refused memory. subst (λ (r : Refused). IsRefused w bytes r) (sym memory) tt)
