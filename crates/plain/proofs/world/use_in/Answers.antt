use Rattle.std.proofs.Common.{sym, ◌∙◌}
use Rattle.plain.proofs.Worlds.{this_use, later_use}
use Rattle.plain.proofs.world.use_in.Goals as goal

pub returns-then-eq : goal.returns-then-eq
returns-then-eq c = sym (c.loop-used.invariant ∙ this_use c.args.uses.now c.loop-used.used-index c.args.id.now _ c.loop-used-test.true (sym c.eq.ensures ∙ c.if-eq.true))

pub loop-used-preserved : goal.loop-used-preserved
loop-used-preserved c = c.loop-used.invariant ∙ later_use c.args.uses.now c.loop-used.used-index c.args.id.now _ c.loop-used-test.true (sym c.eq.ensures ∙ c.if-eq.false)
