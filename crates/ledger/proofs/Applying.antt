-- A ledger with the next block's delta applied makes a step.
use Rattle.std.proofs.Common.{◌≡◌, ℕ, List, Result, Ok, Err, sym, ap, subst}
use Rattle.std.specs.Prelude.{IfOk, IfErr, OnOk, OnErr}
use Rattle.policy_eval.specs.Accepts.{Accepts}
use Rattle.rules.specs.declared.answer.Accepted.{Accepted}
use Rattle.rules.specs.declared.answer.Refused.{Refused}
use Rattle.rules.specs.declared.answer.Refused.TheVariants.{Memory}
use Rattle.rules.specs.declared.delta.Delta.{Delta}
use Rattle.rules.specs.Delta.{applied}
use Rattle.rules.specs.Linked.{IsRefused}
use Rattle.rules.specs.Step.{Step}
use Rattle.next_block.specs.NextDelta.{IsNextDelta, answer_to}
use Rattle.next_block.proofs.NextDeltas.{next_delta-step}
use Rattle.ledger.specs.Contents.{Contents}

-- want of memory may be answered in place of applying it
pub applying-step : (accepts : Accepts) (old new : Contents) (bytes : List ℕ) (d : Delta) (answer : Result Accepted Refused)
    → IsNextDelta old.channel accepts old.world bytes d
    → IfOk answer (λ a. a ≡ answer_to old.world d) → OnOk answer (new ≡ record old { world = applied old.world d })
    → IfErr answer (λ r. r ≡ Memory) → OnErr answer (new ≡ old)
    → Step old.channel accepts old.world bytes answer new.world
applying-step accepts old new bytes d (Ok a) next is made refused same =
    next_delta-step old.channel accepts old.world bytes d a new.world next is (ap (λ (l : Contents). l.world) made)
applying-step accepts old new bytes d (Err r) next is made refused same =
    (subst (λ (x : Refused). IsRefused old.world bytes x) (sym refused) tt, ap (λ (l : Contents). l.world) same)
