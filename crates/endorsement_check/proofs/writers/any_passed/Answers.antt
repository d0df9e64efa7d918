use Rattle.std.proofs.Common.{◌<◌, ◌||◌, true, false, sym, ◌∙◌, ap, Bool, Some}
use Rattle.std.specs.List.{list_any}
use Rattle.std.proofs.lemmas.List.Elements.{All-rest, All-head, All-same}
use Rattle.endorsement_check.proofs.ByWriters.{one_failed, behind_first}
use Rattle.endorsement_check.proofs.writers.any_passed.Goals as goal

pub loop-h-preserved : goal.loop-h-preserved
loop-h-preserved g c = let laws = g.met.B.Board in let before = c.loop-h in let asked = c.endorsed.ensures in record {
  moves = laws.goes_on _ _ _ before.invariant.moves asked.moves;
  earlier = All-rest (λ h. h < c.args.i) c.in-Some.h c.next.new.self before.h-iterator c.in-Some.ensures.steps before.invariant.earlier;
  among = λ n has. before.invariant.among n (behind_first before.h-iterator c.next.new.self c.in-Some.h n c.in-Some.ensures.steps has);
  left = λ called agrees. one_failed called c.args.writers before.h-iterator c.next.new.self c.in-Some.h c.in-Some.ensures.steps
      (agrees c.in-Some.h false (All-head (λ h. h < c.args.i) c.in-Some.h c.next.new.self (All-same (λ h. h < c.args.i) _ _ (sym c.in-Some.ensures.steps) before.invariant.earlier)) (sym asked.value ∙ (c.in-Some-false.is ∙ ap (λ (b : Bool). Some b) c.in-Some-false.field-0-test)))
      (before.invariant.left called (λ h b lt known. agrees h b lt ((laws.grows _ _ asked.moves).endorsed h b known)));
}

pub returns-in-Some-true-clause-decision : goal.returns-in-Some-true-clause-decision
returns-in-Some-true-clause-decision g c = let laws = g.met.B.Board in let before = c.loop-h in let asked = c.endorsed.ensures in λ called agrees.
    before.invariant.left called (λ h b lt known. agrees h b lt ((laws.grows _ _ asked.moves).endorsed h b known))
    ∙ ap (list_any called) c.in-Some.ensures.steps
    ∙ ap (λ (b : Bool). b || list_any called c.next.new.self)
    (agrees c.in-Some.h true (All-head (λ h. h < c.args.i) c.in-Some.h c.next.new.self (All-same (λ h. h < c.args.i) _ _ (sym c.in-Some.ensures.steps) before.invariant.earlier)) (sym asked.value ∙ (c.in-Some-true.is ∙ ap (λ (b : Bool). Some b) c.in-Some-true.field-0-test)))
