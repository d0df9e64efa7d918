use Rattle.std.proofs.Common.{◌∙◌}
use Rattle.plain.proofs.InForm.{before_is}
use Rattle.plain.proofs.sets.is_before.Goals as goal

pub returns : goal.returns
returns c = c.lt.ensures ∙ before_is c.args.bytes.now c.args.others.now
