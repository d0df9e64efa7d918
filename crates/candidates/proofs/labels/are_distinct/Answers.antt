use Rattle.std.proofs.Common.{sym, ◌∙◌}
use Rattle.candidates.proofs.Distinct.{rising_are_distinct}
use Rattle.candidates.proofs.labels.are_distinct.Goals as goal

pub returns-then-are_rising : goal.returns-then-are_rising
returns-then-are_rising g c =
    sym (rising_are_distinct g.T.Labelled.label c.args.items.now (sym c.are_rising.ensures ∙ c.if-are_rising.true))
