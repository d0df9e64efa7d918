use Rattle.std.proofs.Common.{ap, ◌∙◌}
use Rattle.std.specs.Ordering.{is_eq}
use Rattle.rules.proofs.Keys.{key_ties}
use Rattle.conflicts.proofs.conflict_key.ConflictKey.is_same.Goals as goal

pub returns : goal.returns
returns c = c.is_eq.ensures ∙ ap is_eq c.order.ensures ∙ key_ties c.args.self.now c.args.other.now
