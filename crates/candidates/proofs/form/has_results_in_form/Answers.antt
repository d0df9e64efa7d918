use Rattle.candidates.proofs.FormParts.{first_test, second_test}
use Rattle.candidates.proofs.form.has_results_in_form.Goals as goal

pub returns-then-are_rising : goal.returns-then-are_rising
returns-then-are_rising c =
    second_test c.args.range.now _ _ _ c.if-are_rising.true c.as_slice-results.ensures c.are_rising.ensures c.are_within.ensures

pub returns-else-are_rising : goal.returns-else-are_rising
returns-else-are_rising c =
    first_test c.args.range.now _ _ c.if-are_rising.false c.as_slice-results.ensures c.are_rising.ensures
