use Rattle.std.proofs.Common.{◌∷◌, [], ◌∙◌, arith, length-append}
use Rattle.policy_eval.proofs.Once.{signed_already, signed_newly, not_signed, accepted_is, found_is}
use Rattle.policy_eval.proofs.signing.signers_from.Goals as goal
use Rattle.policy_eval.proofs.signing.signers_from.Goals.{then-not-contains+in_ok-has_signed+then-branch+in_ok-push, else-not-contains, else-not-contains-via-then-not-contains+in_ok-has_signed+else-branch, else-not-contains-via-else-not-contains}

pub loop-endorsement-preserved : goal.loop-endorsement-preserved
loop-endorsement-preserved g c =
    let accepts = g.V.Verify.accepts c.args.verifier.now in
    let body = c.args.message.items in
    let es = c.args.endorsements.now in
    let i = c.loop-endorsement.endorsement-index in
    let e = c.endorsement-item.result in
    let signers = c.loop-endorsement.identities.items in
    let before = c.loop-endorsement.invariant in
    let found = found_is signers c.as_slice.result.now e.endorser c.contains.result c.contains.ensures c.as_slice.ensures.value in
    elim c.if-not-contains.branch [
      | then-not-contains+in_ok-has_signed+then-branch+in_ok-push w ↦
          let answer = w.in_ok-has_signed.ensures in
          record {
            so_far = rw w.identities-is (
                signed_newly accepts body es i e w.reborrow.result signers w.push.new.self.items c.loop-endorsement-test.true c.endorsement-item.is before.so_far (found ∙ w.if-not-contains.true)
                (accepted_is accepts body e _ w.in_ok-has_signed.field-0 before.front answer.value ∙ w.if-branch.true)
                w.reborrow.ensures w.in_ok-push.ensures.items);
            few = rw (w.identities-is, w.in_ok-push.ensures.items) (omega (arith, before.few, length-append signers (w.reborrow.result ∷ [])));
            front = rw w.message-is (answer.kept ∙ before.front);
            long = rw w.message-is answer.long;
          }
      | else-not-contains w ↦ elim w.else-not-contains.branch [
        | else-not-contains-via-then-not-contains+in_ok-has_signed+else-branch v ↦
            let answer = v.in_ok-has_signed.ensures in
            record {
              so_far = rw w.identities-is (
                  not_signed accepts body es i e signers c.loop-endorsement-test.true c.endorsement-item.is before.so_far
                  (accepted_is accepts body e _ v.in_ok-has_signed.field-0 before.front answer.value ∙ v.if-branch.false));
              few = rw w.identities-is (omega (arith, before.few));
              front = rw (w.message-is, v.message-is) (answer.kept ∙ before.front);
              long = rw (w.message-is, v.message-is) answer.long;
            }
        | else-not-contains-via-else-not-contains v ↦
            record {
              so_far = rw w.identities-is (
                  signed_already accepts body es i e signers c.loop-endorsement-test.true c.endorsement-item.is before.so_far (found ∙ v.if-not-contains.false));
              few = rw w.identities-is (omega (arith, before.few));
              front = rw (w.message-is, v.message-is) before.front;
              long = rw (w.message-is, v.message-is) before.long;
            }
      ]
    ]
