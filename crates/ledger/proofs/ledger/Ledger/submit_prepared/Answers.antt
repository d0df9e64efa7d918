use Rattle.std.proofs.Common.{ℕ, List, refl, subst}
use Rattle.std.proofs.Math.Logic.{∥∥₁_elim}
use Rattle.std.proofs.Props.{props}
use Rattle.std.proofs.lemmas.Result.{err_from_is_err_and}
use Rattle.policy_eval.specs.Accepts.{Accepts}
use Rattle.rules.specs.Linked.{IsRefused}
use Rattle.rules.specs.Delta.{applied}
use Rattle.rules.specs.Names.{HasNamesOf}
use Rattle.ledger.specs.Contents.{Contents}
use Rattle.next_block.specs.NextDelta.{IsNextDelta}
use Rattle.next_block.specs.Prepared.{IsPrepared}
use Rattle.next_block.proofs.NextDeltas.{next-names}
use Rattle.ledger.proofs.Applying.{applying-step}
use Rattle.ledger.proofs.ledger.Ledger.submit_prepared.Goals as goal

pub apply-requires : goal.apply-requires
apply-requires c =
    let d = c.in_ok-delta.delta in
    let p = c.args.prepared in
    let next : (accepts : Accepts) (bytes : List ℕ) → IsPrepared c.args.self.now.channel accepts bytes p → IsNextDelta c.args.self.now.channel accepts c.args.self.now.world bytes d =
    subst (λ (l : Contents). (accepts : Accepts) (bytes : List ℕ) → IsPrepared l.channel accepts bytes p → IsNextDelta l.channel accepts l.world bytes d) c.self.view_is c.in_ok-delta.ensures in
    let names : HasNamesOf c.args.self.now.channel c.args.self.now.world = subst (λ (l : Contents). HasNamesOf l.channel l.world) c.self.view_is c.self.invariant in
    λ chaincode. ∥∥₁_elim c.requires (search props) (λ made.
    next-names c.args.self.now.channel made.accepts c.args.self.now.world made.bytes d names (next made.accepts made.bytes made.is) chaincode)

pub returns-clause-step : goal.returns-clause-step
returns-clause-step c = λ accepts bytes prepared.
    let d = c.in_ok-delta.delta in
    let p = c.args.prepared in
    let next : (a : Accepts) (bs : List ℕ) → IsPrepared c.args.self.now.channel a bs p → IsNextDelta c.args.self.now.channel a c.args.self.now.world bs d =
    subst (λ (l : Contents). (a : Accepts) (bs : List ℕ) → IsPrepared l.channel a bs p → IsNextDelta l.channel a l.world bs d) c.self.view_is c.in_ok-delta.ensures in
    let e = c.apply.ensures in
    applying-step accepts c.args.self.now c.apply.new.self bytes d c.apply.result (next accepts bytes prepared) e.accepted e.applied e.refused e.err

pub returns-in_err-delta-clause-step : goal.returns-in_err-delta-clause-step
returns-in_err-delta-clause-step c = λ accepts bytes prepared.
    let p = c.args.prepared in
    let refused : (a : Accepts) (bs : List ℕ) → IsPrepared c.args.self.now.channel a bs p → IsRefused c.args.self.now.world bs c.in_err-delta.field-0.0 =
    subst (λ (l : Contents). (a : Accepts) (bs : List ℕ) → IsPrepared l.channel a bs p → IsRefused l.world bs c.in_err-delta.field-0.0) c.self.view_is c.in_err-delta.ensures in
    let is = err_from_is_err_and c.from_residual.result c.from_residual.ensures.1 in
    rw (is.1, is.2) (refused accepts bytes prepared, refl)
