use Rattle.std.proofs.Common.{sym, ◌∙◌, arith}
use Rattle.state_db.specs.Search.{is_below}
use Rattle.state_db.proofs.Order.{falls_sorted, all_before, all_lead}
use Rattle.state_db.proofs.batch.place_of.Goals as goal

pub count_below-requires : goal.count_below-requires
count_below-requires c = falls_sorted c.args.wanted.now c.args.edits.now c.requires

pub returns-in-Some-clause-place : goal.returns-in-Some-clause-place
returns-in-Some-clause-place c =
    let k = c.args.wanted.now in
    let es = c.args.edits.now in
    sym (all_lead (is_below k) es (all_before k es c.in-Some.last.now c.requires (omega (arith, c.in-Some.ensures.item.3.0)) c.in-Some.ensures.item.1 (sym c.is_below.ensures ∙ c.if-is_below.true)))
