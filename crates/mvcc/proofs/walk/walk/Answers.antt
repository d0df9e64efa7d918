use Rattle.std.proofs.Common.{◌<◌}
use Rattle.std.proofs.lemmas.List.Elements.{All-rest}
use Rattle.mvcc.specs.declared.walk.Finding.TheVariants.{Open, Settled}
use Rattle.mvcc.proofs.Walking.{one_step, behind_first}
use Rattle.mvcc.proofs.walk.walk.Goals as goal

pub loop-operation-preserved : goal.loop-operation-preserved
loop-operation-preserved g c = let laws = g.met.B.Board in let before = c.loop-operation in record {
  moves = laws.goes_on _ _ _ before.invariant.moves c.look_at.ensures.moves;
  earlier = All-rest (λ o. o.tx < c.args.i) c.in-Some.operation c.next.new.self before.operation-iterator c.in-Some.ensures.steps before.invariant.earlier;
  whose = λ h has. before.invariant.whose h (behind_first h before.operation-iterator c.next.new.self c.in-Some.operation c.in-Some.ensures.steps has);
  left = one_step c.args.number c.args.i _ _ c.args.operations before.operation-iterator c.next.new.self c.in-Some.operation before.noted c.in-Sure-Open.field-0 (Open c.in-Sure-Open.newest)
      (laws.grows _ _ c.look_at.ensures.moves) c.in-Some.ensures.steps before.invariant.left c.in-Sure-Open.ensures.decision c.in-Sure-Open.field-0-is;
}

pub returns-in-Sure-Settled-clause-decision : goal.returns-in-Sure-Settled-clause-decision
returns-in-Sure-Settled-clause-decision g c = let laws = g.met.B.Board in let before = c.loop-operation in
    one_step c.args.number c.args.i _ _ c.args.operations before.operation-iterator c.next.new.self c.in-Some.operation before.noted c.in-Sure-Settled.field-0 (Settled c.in-Sure-Settled.version)
    (laws.grows _ _ c.look_at.ensures.moves) c.in-Some.ensures.steps before.invariant.left c.in-Sure-Settled.ensures.decision c.in-Sure-Settled.field-0-is
