use Rattle.std.proofs.Common.{◌<◌, ◌∙◌, subst, sym}
use Rattle.std.specs.FinMap.{insert, len}
use Rattle.channel.proofs.Bound.{few_with_one}
use Rattle.channel.proofs.channel_text.SoFar.define.Goals as goal

pub invariant_of-self : goal.invariant_of-self
invariant_of-self c =
    let set = c.in_ok-set_in_both.ensures in (
      few_with_one c.self.inside.definitions c.set_in_both.new.one _ _ (subst (λ s. len s.definitions < 256) (sym c.self.view_is) c.in_ok-policy.ensures.few) set.0,
      set.1
          ∙ (λ i. insert (c.self.invariant.1 i) c.args.chaincode.now c.in_ok-policy.policy)
          ∙ sym set.0,
    )
