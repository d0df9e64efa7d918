use Rattle.std.proofs.Common.{ap, ◌∙◌}
use Rattle.query.proofs.Keeping.{starts}
use Rattle.query.proofs.opening.writer_over.Goals as goal

pub new-requires-clause-rule : goal.new-requires-clause-rule
new-requires-clause-rule c = starts _ (ap (λ x. x.front.list) c.of-first.ensures ∙ c.requires.empty)
