use Rattle.std.proofs.Common.{◌∙◌}
use Rattle.plain.proofs.InForm.{at_most_is}
use Rattle.plain.proofs.sets.is_at_most.Goals as goal

pub returns : goal.returns
returns c = c.le.ensures ∙ at_most_is c.args.bytes.now c.args.others.now
