use Rattle.std.proofs.Common.{◌+◌, drop, sym, ap, ◌∙◌}
use Rattle.std.specs.FinMap.{insert}
use Rattle.policy.specs.Tree.{Tree}
use Rattle.policy.specs.Policies.{Policies}
use Rattle.rules.specs.Definitions.{with_definitions}
use Rattle.rules.specs.Delta.{definitions_in}
use Rattle.plain.proofs.Worlds.{last_definition, next_definition}
use Rattle.plain.proofs.world.definitions_after.Goals as goal

pub loop-new-preserved : goal.loop-new-preserved
loop-new-preserved c =
    let rest = definitions_in (drop (c.loop-new.new-index + 1) c.args.more.now) in
    c.loop-new.invariant
    ∙ next_definition c.loop-new.after c.args.more.now c.loop-new.new-index c.new-item.result c.loop-new-test.true c.new-item.is
    ∙ ap (λ (p : Tree). with_definitions (insert c.loop-new.after c.new-item.result.chaincode p) rest) (sym (c.in_ok-copy.ensures ∙ c.get.ensures))
    ∙ ap (λ (m : Policies). with_definitions m rest) (sym c.in_ok-set.ensures.ok)

pub returns : goal.returns
returns c =
    sym (last_definition c.loop-new.after c.args.more.now c.loop-new.new-index c.loop-new-test.false)
    ∙ sym c.loop-new.invariant
