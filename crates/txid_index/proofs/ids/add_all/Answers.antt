use Rattle.std.proofs.Common.{◌≡◌, ◌+◌, ◌<◌, ◌++◌, [], ◌∷◌, take, refl, sym, ap, subst, ◌∙◌, arith}
use Rattle.rules.specs.declared.delta.NewUse.{NewUse}
use Rattle.rules.specs.FirstUses.{FirstUses, with_uses}
use Rattle.rules.specs.Delta.{uses_in}
use Rattle.rules.proofs.IdUses.{with_uses-none}
use Rattle.txid_index.specs.Found.{IsIndex}
use Rattle.txid_index.proofs.Adding.{one_more, is_at}
use Rattle.txid_index.proofs.ids.add_all.Goals as goal

pub loop-index-init : goal.loop-index-init
loop-index-init c = record {
  index = λ before index. subst (IsIndex c.args.lists.now c.args.firsts.now.entries c.args.others.now.entries) (sym (with_uses-none before)) index;
  there = c.requires.there;
  firsts_ = omega arith;
  others_ = omega arith;
}

pub loop-index-preserved : goal.loop-index-preserved
loop-index-preserved c = record {
  index = λ before index.
      subst (IsIndex c.args.lists.now c.add_one.new.firsts.entries c.add_one.new.others.entries) (one_more before c.args.uses.now c.loop-index.index _ c.loop-index-test.true)
      (c.add_one.ensures.index (with_uses before (uses_in (take c.loop-index.index c.args.uses.now))) (c.loop-index.invariant.index before index));
  there = c.add_one.ensures.there;
  firsts_ = omega (arith, c.add_one.ensures.firsts, c.loop-index.invariant.firsts_);
  others_ = omega (arith, c.add_one.ensures.others, c.loop-index.invariant.others_);
}
