use Rattle.std.proofs.Common.{ap, ◌∙◌}
use Rattle.transaction.specs.Items.{item_of}
use Rattle.rules.specs.Candidate.{is_used, candidate_of}
use Rattle.plain.specs.Seen.{channel_with}
use Rattle.plain.proofs.Places.{one_id, one_candidate}
use Rattle.plain.proofs.intake.taken_in.Goals as goal

pub loop-bytes-preserved : goal.loop-bytes-preserved
loop-bytes-preserved g c =
    let accepts = g.V.Verify.accepts c.args.setting.now.verifier.now in
    let is = c.as_slice-in-loop-bytes.ensures ∙ c.bytes-item.is in record {
      candidates =
          c.loop-bytes.invariant.candidates
          ∙ one_candidate (channel_with c.args.setting.now.channel.now c.args.setting.now.world.now) accepts c.args.version c.args.txs.now c.loop-bytes.bytes-index c.as_slice-in-loop-bytes.result.now c.bytes-item.result c.loop-bytes-test.true is
          c.args.setting.now.alone c.args.setting.now.world.now.first_uses c.loop-bytes.candidates.items c.push.new.self.items c.in_ok-taken.taken.candidate c.loop-bytes.earlier.items c.add_id.new.ids.items c.in_ok-taken.taken.id
          c.in_ok-taken.ensures.id (c.in_ok-taken.ensures.candidate ∙ ap (λ earlier. candidate_of (channel_with c.args.setting.now.channel.now c.args.setting.now.world.now) accepts c.args.setting.now.alone (is_used c.args.setting.now.world.now.first_uses earlier c.in_ok-taken.taken.id) (item_of c.args.version c.as_slice-in-loop-bytes.result.now)) c.as_slice.ensures.value) c.in_ok-push.ensures.items c.in_ok-add_id.ensures;
      ids = one_id c.args.setting.now.channel.now accepts c.args.version c.args.txs.now c.loop-bytes.bytes-index c.as_slice-in-loop-bytes.result.now c.bytes-item.result c.loop-bytes-test.true is
          c.loop-bytes.ids.items c.push-in-loop-bytes.new.self.items c.in_ok-taken.taken.id c.loop-bytes.invariant.ids c.in_ok-taken.ensures.id c.in_ok-push-2.ensures.items;
    }
