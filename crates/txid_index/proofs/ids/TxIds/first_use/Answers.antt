use Rattle.std.proofs.Common.{sym, subst, ap, ◌∙◌}
use Rattle.std.specs.FinMap.{get}
use Rattle.txid_index.specs.Ids.{Ids}
use Rattle.txid_index.specs.Found.{found}
use Rattle.txid_index.specs.Lists.{AreThere}
use Rattle.txid_index.proofs.ids.TxIds.first_use.Goals as goal

pub first_use_of-requires : goal.first_use_of-requires
first_use_of-requires c = subst (λ lists. AreThere lists c.self.inside.firsts.entries) (sym c.as_slice.ensures.value) c.self.invariant.1

pub returns : goal.returns
returns c =
    c.first_use_of.ensures
    ∙ ap (λ lists. found lists c.self.inside.firsts.entries c.self.inside.others.entries c.args.id.now) c.as_slice.ensures.value
    ∙ c.self.invariant.0.finds c.args.id.now
    ∙ ap (λ (i : Ids). get i.uses c.args.id.now) c.self.view_is
