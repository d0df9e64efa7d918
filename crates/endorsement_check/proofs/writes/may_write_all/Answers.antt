use Rattle.std.proofs.Common.{add-one, true, false, sym, ap, ◌∙◌, List}
use Rattle.std.specs.List.{list_all}
use Rattle.rules.specs.State.{StateKey}
use Rattle.rules.specs.Assignment.{touched_under}
use Rattle.rules.specs.Endorsement.{may_write}
use Rattle.endorsement_check.proofs.WrittenKeys.{one_tested}
use Rattle.endorsement_check.proofs.writes.may_write_all.Goals as goal

pub returns-in-Sure-false-clause-decision : goal.returns-in-Sure-false-clause-decision
returns-in-Sure-false-clause-decision g c =
    let j = c.args.job.now in
    let step = one_tested (λ called. may_write j.definitions j.state (touched_under j called c.args.i) c.args.signers.now) _ _ c.args.i c.args.written.now c.loop-place.place c.index-written-place.result false
    (g.met.B.Board.grows _ _ c.may_write.ensures.moves).endorsed c.loop-place-test.true c.index-written-place.is c.loop-place.invariant.left (λ called agrees. c.in-Sure-false.ensures.decision called agrees ∙ c.in-Sure-false.field-0-test) in
    λ called agrees. ap (λ (ks : List StateKey). list_all (may_write j.definitions j.state (touched_under j called c.args.i) c.args.signers.now) ks) (sym c.requires.all) ∙ step called agrees

pub loop-place-preserved : goal.loop-place-preserved
loop-place-preserved g c = let j = c.args.job.now in record {
  moves = g.met.B.Board.goes_on _ _ _ c.loop-place.invariant.moves c.may_write.ensures.moves;
  left = rw add-one (one_tested (λ called. may_write j.definitions j.state (touched_under j called c.args.i) c.args.signers.now) _ _ c.args.i c.args.written.now c.loop-place.place c.index-written-place.result true
      (g.met.B.Board.grows _ _ c.may_write.ensures.moves).endorsed c.loop-place-test.true c.index-written-place.is c.loop-place.invariant.left (λ called agrees. c.in-Sure-true.ensures.decision called agrees ∙ c.in-Sure-true.field-0-test));
}
