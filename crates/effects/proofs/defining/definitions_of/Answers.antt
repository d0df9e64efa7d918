use Rattle.std.proofs.Common.{arith}
use Rattle.rules.specs.declared.flag.Flag.TheVariants.{Valid}
use Rattle.effects.proofs.Definitions.{given-first}
use Rattle.effects.proofs.FlagLists.{as_many, flag_at}
use Rattle.effects.proofs.defining.definitions_of.Goals as goal

pub bounds-flags-i : goal.bounds-flags-i
bounds-flags-i c = omega (arith, as_many c.args.job.now c.args.flags.now c.requires, c.loop-i-test.true, c.len-i-end.ensures.value, c.loop-i.auto.i-end)

pub take-requires-clause-flag : goal.take-requires-clause-flag
take-requires-clause-flag c = flag_at c.args.job.now c.args.flags.now c.requires c.loop-i.i Valid (omega (arith, c.loop-i-test.true, c.len-i-end.ensures.value, c.loop-i.auto.i-end))

pub loop-i-init : goal.loop-i-init
loop-i-init c = given-first c.args.job.now _ c.new-definitions.ensures.items
