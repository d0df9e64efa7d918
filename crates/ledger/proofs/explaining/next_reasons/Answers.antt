use Rattle.std.proofs.Common.{length, map, is_some, ap, sym, subst, refl, ◌∙◌}
use Rattle.std.proofs.lemmas.List.{length-map}
use Rattle.std.proofs.lemmas.Result.{IfOk-weaker, IfOk-at_ok, MatchResult-weaker}
use Rattle.transaction.specs.Items.{item_of}
use Rattle.rules.specs.declared.answer.Refused.{Refused}
use Rattle.rules.specs.Candidate.{used_id}
use Rattle.rules.specs.Commit.{items_of}
use Rattle.rules.specs.Linked.{IsRefused}
use Rattle.ledger.proofs.Found.{are_there, are_found}
use Rattle.next_block.proofs.NextDeltas.{count-job}
use Rattle.next_block.proofs.Taken.{few}
use Rattle.ledger.proofs.explaining.next_reasons.Goals as goal

pub job_of-requires : goal.job_of-requires
job_of-requires g c = few _ _ _ _ _ c.in_ok-block.ensures.is_taken

pub found_reasons-requires-clause-count : goal.found_reasons-requires-clause-count
found_reasons-requires-clause-count g c =
    let channel = c.args.channel.now in
    let accepts = g.V.Verify.accepts c.args.verifier.now in
    let b = c.in_ok-block.block in
    let taken = c.in_ok-block.ensures.is_taken.taken in
    ap length c.txs.ensures ∙ sym (length-map b.txs (item_of b.version)) ∙ sym (length-map (items_of b) (used_id channel accepts))
    ∙ count-job channel accepts c.args.world.now b c.in_ok-job.job (map (used_id channel accepts) (items_of b)) (c.in_ok-job.ensures.job c.requires accepts (items_of b) taken) refl

pub found_reasons-requires-clause-ids : goal.found_reasons-requires-clause-ids
found_reasons-requires-clause-ids g c =
    let channel = c.args.channel.now in
    let accepts = g.V.Verify.accepts c.args.verifier.now in
    let b = c.in_ok-block.block in
    let taken = c.in_ok-block.ensures.is_taken.taken in
    count-job channel accepts c.args.world.now b c.in_ok-job.job c.as_slice.result.now (c.in_ok-job.ensures.job c.requires accepts (items_of b) taken)
    (c.as_slice.ensures.value ∙ c.in_ok-job.ensures.ids accepts (items_of b) taken)

pub there-requires : goal.there-requires
there-requires g c =
    let channel = c.args.channel.now in
    let accepts = g.V.Verify.accepts c.args.verifier.now in
    let b = c.in_ok-block.block in
    let taken = c.in_ok-block.ensures.is_taken.taken in
    IfOk-weaker c.found_reasons.result _ _
    (λ x found. ap is_some (are_there channel accepts c.args.world.now b c.version.result c.txs.result.now c.in_ok-job.job c.as_slice.result.now c.version.ensures c.txs.ensures
    (c.in_ok-job.ensures.job c.requires accepts (items_of b) taken) (c.as_slice.ensures.value ∙ c.in_ok-job.ensures.ids accepts (items_of b) taken) x found).1)
    c.found_reasons.ensures

pub returns : goal.returns
returns g c =
    let channel = c.args.channel.now in
    let accepts = g.V.Verify.accepts c.args.verifier.now in
    let w = c.args.world.now in
    let b = c.in_ok-block.block in
    let next = c.in_ok-block.ensures in
    let taken = next.is_taken.taken in
    MatchResult-weaker c.there.result c.there.ensures
    (λ reasons is. record {
      block = b;
      spelled = next.is_taken.spelled;
      linked = next.linked;
      are_reasons = are_found channel accepts w b c.version.result c.txs.result.now c.in_ok-job.job c.as_slice.result.now c.version.ensures c.txs.ensures
          (c.in_ok-job.ensures.job c.requires accepts (items_of b) taken) (c.as_slice.ensures.value ∙ c.in_ok-job.ensures.ids accepts (items_of b) taken) reasons (IfOk-at_ok _ is c.found_reasons.ensures);
    })
    (λ refused memory. subst (λ (r : Refused). IsRefused w c.args.bytes.now r) (sym memory) tt)
