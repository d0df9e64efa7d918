use Rattle.std.proofs.Common.{sym, ◌∙◌}
use Rattle.world.proofs.Steps.{none_more}
use Rattle.world.proofs.deltas.definitions_with.Goals as goal

pub returns-then-is_empty : goal.returns-then-is_empty
returns-then-is_empty c = none_more c.args.definitions.now c.args.more.now (sym c.is_empty.ensures ∙ c.if-is_empty.true)
