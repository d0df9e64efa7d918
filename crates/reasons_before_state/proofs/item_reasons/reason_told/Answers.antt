use Rattle.std.proofs.Common.{ap, ◌∙◌}
use Rattle.std.proofs.lemmas.Result.{IfOk-weaker}
use Rattle.rules.specs.Flags as flags
use Rattle.rules.specs.Candidate.{flagged}
use Rattle.reasons_before_state.proofs.Telling.{tells_update}
use Rattle.reasons_before_state.proofs.item_reasons.reason_told.Goals as goal

pub returns-in-InvalidConfigTransaction : goal.returns-in-InvalidConfigTransaction
returns-in-InvalidConfigTransaction c =
    let is = c.in-InvalidConfigTransaction.is in
    IfOk-weaker c.update_reason.result _ _ (λ x h accepts items r same given at early_so f why.
    tells_update c.args.block.now.channel.now accepts c.args.block.now.world.now items c.args.i c.args.item.now at c.args.block.now.ids.now same (early_so ∙ ap flagged is) x
    (λ u e. h u (c.item-in-InvalidConfigTransaction.ensures.value ∙ e)) r (f ∙ ap flags.flag_of is) why) c.update_reason.ensures
