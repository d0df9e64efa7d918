use Rattle.std.proofs.Common.{◌∙◌}
use Rattle.policy_eval.proofs.Once.{found_is}
use Rattle.reasons_from_state.proofs.Refusing.{signed_too, refused_already, refused_newly}
use Rattle.reasons_from_state.proofs.shortfalls.refused.Goals as goal
use Rattle.reasons_from_state.proofs.shortfalls.refused.Goals.{then-is_among-via-then-is_among, then-is_among-via-else-is_among+then-is_among-2}

pub loop-endorsement-preserved-then-is_among : goal.loop-endorsement-preserved-then-is_among
loop-endorsement-preserved-then-is_among c =
    let signers = c.args.signers.now in
    let es = c.args.endorsements.now in
    let i = c.loop-endorsement.endorsement-index in
    let e = c.endorsement-item.result in
    let refused = c.loop-endorsement.refused.items in
    let signed = found_is signers c.as_slice.result.now e.endorser c.is_among.result c.is_among.ensures c.as_slice.ensures.value in
    elim c.then-is_among.branch [
      | then-is_among-via-then-is_among w ↦ signed_too signers es i e c.loop-endorsement-test.true c.endorsement-item.is refused c.loop-endorsement.invariant (signed ∙ w.if-is_among.true)
      | then-is_among-via-else-is_among+then-is_among-2 w ↦
          let there = found_is refused w.as_slice-else-is_among.result.now e.endorser w.is_among-else-is_among.result w.is_among-else-is_among.ensures w.as_slice-else-is_among.ensures.value in
          refused_already signers es i e c.loop-endorsement-test.true c.endorsement-item.is refused c.loop-endorsement.invariant (signed ∙ w.if-is_among.false) (there ∙ w.if-is_among-2.true)
    ]

pub loop-endorsement-preserved : goal.loop-endorsement-preserved
loop-endorsement-preserved c =
    let signers = c.args.signers.now in
    let e = c.endorsement-item.result in
    let refused = c.loop-endorsement.refused.items in
    refused_newly signers c.args.endorsements.now c.loop-endorsement.endorsement-index e c.loop-endorsement-test.true c.endorsement-item.is refused c.loop-endorsement.invariant
    (found_is signers c.as_slice.result.now e.endorser c.is_among.result c.is_among.ensures c.as_slice.ensures.value ∙ c.if-is_among.false)
    (found_is refused c.as_slice-else-is_among.result.now e.endorser c.is_among-else-is_among.result c.is_among-else-is_among.ensures c.as_slice-else-is_among.ensures.value ∙ c.if-is_among-2.false)
    c.reborrow.result c.reborrow.ensures c.push.new.self.items c.in_ok-push.ensures.items
