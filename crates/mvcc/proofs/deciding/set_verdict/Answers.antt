use Rattle.std.proofs.Common.{true, false, List, sym, ap, ◌∙◌}
use Rattle.std.specs.List.{list_all}
use Rattle.transaction.specs.declared.transaction.Read.{Read}
use Rattle.transaction.specs.declared.transaction.Range.{Range}
use Rattle.rules.specs.Assignment.{state_under}
use Rattle.rules.specs.Ranges.{range_holds}
use Rattle.rules.specs.Reads.{read_holds}
use Rattle.mvcc.proofs.FirstFault.{ranges_decide}
use Rattle.mvcc.proofs.deciding.set_verdict.Goals as goal

pub returns-in-Sure-true-ranges_hold-clause-decision : goal.returns-in-Sure-true-ranges_hold-clause-decision
returns-in-Sure-true-ranges_hold-clause-decision g c = let j = c.args.job.now in let s = c.args.set.now in
    ranges_decide j _ _ c.args.i s true (g.met.B.Board.grows _ _ c.ranges_hold.ensures.moves)
    (λ called agrees. ap (λ (rs : List Read). list_all (read_holds (state_under j called c.args.i) s.name) rs) (sym c.as_slice.ensures) ∙ c.in-Sure-true.ensures.decision called agrees ∙ c.in-Sure-true.field-0-test)
    (λ called agrees. ap (λ (rs : List Range). list_all (range_holds (state_under j called c.args.i) s.name) rs) (sym c.as_slice-2.ensures) ∙ c.in-Sure-true-ranges_hold.ensures.decision called agrees ∙ c.in-Sure-true-ranges_hold.field-0-test)

pub returns-in-Sure-false-ranges_hold-clause-decision : goal.returns-in-Sure-false-ranges_hold-clause-decision
returns-in-Sure-false-ranges_hold-clause-decision g c = let j = c.args.job.now in let s = c.args.set.now in
    ranges_decide j _ _ c.args.i s false (g.met.B.Board.grows _ _ c.ranges_hold.ensures.moves)
    (λ called agrees. ap (λ (rs : List Read). list_all (read_holds (state_under j called c.args.i) s.name) rs) (sym c.as_slice.ensures) ∙ c.in-Sure-true.ensures.decision called agrees ∙ c.in-Sure-true.field-0-test)
    (λ called agrees. ap (λ (rs : List Range). list_all (range_holds (state_under j called c.args.i) s.name) rs) (sym c.as_slice-2.ensures) ∙ c.in-Sure-false-ranges_hold.ensures.decision called agrees ∙ c.in-Sure-false-ranges_hold.field-0-test)
