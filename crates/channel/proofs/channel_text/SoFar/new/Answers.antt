use Rattle.std.proofs.Common.{sym, ◌∙◌}
use Rattle.channel.proofs.Bound.{few_at_first}
use Rattle.channel.proofs.channel_text.SoFar.new.Goals as goal

pub invariant_of-result : goal.invariant_of-result
invariant_of-result c = (few_at_first c.new.result c.new.ensures, c.new-2.ensures ∙ sym c.new.ensures)
