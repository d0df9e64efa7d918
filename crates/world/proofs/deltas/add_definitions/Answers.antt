use Rattle.std.proofs.Common.{sym, ◌∙◌}
use Rattle.world.proofs.Steps.{no_definitions, definitions_more}
use Rattle.world.proofs.deltas.add_definitions.Goals as goal

pub loop-definition-init : goal.loop-definition-init
loop-definition-init c = sym (no_definitions c.args.definitions.now)

pub loop-definition-preserved : goal.loop-definition-preserved
loop-definition-preserved c =
    definitions_more c.args.more.now c.loop-definition.definition-index c.definition-item.result c.in_ok-copy.field-0 c.args.definitions.now c.loop-definition.definitions c.set.new.self c.loop-definition-test.true
    c.definition-item.is (c.in_ok-copy.ensures ∙ c.get.ensures) c.in_ok-set.ensures.ok c.loop-definition.invariant
