use Rattle.std.proofs.Common.{subst}
use Rattle.rules.specs.Delta.{applied}
use Rattle.rules.specs.Names.{HasNamesOf}
use Rattle.ledger.specs.Contents.{Contents}
use Rattle.next_block.specs.NextDelta.{IsNextDelta}
use Rattle.next_block.proofs.NextDeltas.{next-names}
use Rattle.ledger.proofs.Applying.{applying-step}
use Rattle.ledger.proofs.ledger.Ledger.submit_one.Goals as goal

pub apply-requires : goal.apply-requires
apply-requires g c =
    let accepts = g.V.Verify.accepts c.args.verifier.now in
    let l = c.self.inside in
    subst (λ (l : Contents). HasNamesOf l.channel (applied l.world c.in_ok-delta.delta)) c.self.view_is
    (next-names l.channel accepts l.world c.args.bytes.now c.in_ok-delta.delta c.self.invariant c.in_ok-delta.ensures)

pub returns-clause-step : goal.returns-clause-step
returns-clause-step g c =
    let accepts = g.V.Verify.accepts c.args.verifier.now in
    let next : IsNextDelta c.args.self.now.channel accepts c.args.self.now.world c.args.bytes.now c.in_ok-delta.delta =
    subst (λ (l : Contents). IsNextDelta l.channel accepts l.world c.args.bytes.now c.in_ok-delta.delta) c.self.view_is c.in_ok-delta.ensures in
    let e = c.apply.ensures in
    applying-step accepts c.args.self.now c.apply.new.self c.args.bytes.now c.in_ok-delta.delta c.apply.result next e.accepted e.applied e.refused e.err

pub returns-clause-first_version : goal.returns-clause-first_version
returns-clause-first_version g c =
    c.first_version_steps_as_before.ensures.step c.args.self.now.channel (g.V.Verify.accepts c.args.verifier.now) c.args.self.now.world c.apply.new.self.world c.args.bytes.now c.apply.result
    (returns-clause-step g c)
