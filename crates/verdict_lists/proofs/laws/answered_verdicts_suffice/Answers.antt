use Rattle.std.proofs.Common.{ℕ, List, subst, sym}
use Rattle.policy_eval.specs.Accepts.{Accepts}
use Rattle.signature_requests.specs.declared.request.Request.{Request}
use Rattle.signature_requests.specs.Agreement.{answer_to, AgreeOn, AgreeOnBytes}
use Rattle.signature_requests.specs.Requests.{AreRequests}
use Rattle.rules.specs.Commit.{items_of}
use Rattle.verdicts.specs.declared.verdict.Verdict.{Verdict}
use Rattle.verdicts.specs.Said.{accepted_by}
use Rattle.verdict_lists.specs.Listed.{pool_of, AreVerdicts}
use Rattle.verdict_lists.proofs.Answered.{verdicts-agree}
use Rattle.verdict_lists.proofs.laws.answered_verdicts_suffice.Goals as goal

agree : ((accepts others : Accepts) (bytes : List ℕ) (requests : List Request) → AreRequests bytes requests → AgreeOn accepts others requests → AgreeOnBytes accepts others bytes)
    → (accepts : Accepts) (bytes pool : List ℕ) (verdicts : List Verdict) → AreVerdicts (answer_to accepts) bytes pool verdicts → AgreeOnBytes (accepted_by pool verdicts) accepts bytes
agree one accepts bytes pool verdicts are =
    let known = subst (λ (p : List ℕ). AgreeOn (accepted_by p verdicts) accepts are.requests) (sym are.pooled)
    (subst (λ (vs : List Verdict). AgreeOn (accepted_by (pool_of are.requests) vs) accepts are.requests) (sym are.answered) (verdicts-agree accepts are.requests)) in
    one (accepted_by pool verdicts) accepts bytes are.requests are.of_block known

pub returns-clause-agreement : goal.returns-clause-agreement
returns-clause-agreement c = agree c.bytes_have_one_list_of_requests.ensures.agreement

pub returns-clause-step : goal.returns-clause-step
returns-clause-step c = λ channel accepts old new bytes pool verdicts answer are step.
    c.verifiers_that_agree_make_one_step.ensures channel (accepted_by pool verdicts) accepts old new bytes answer
    (agree c.bytes_have_one_list_of_requests.ensures.agreement accepts bytes pool verdicts are) step

pub returns-clause-reasons : goal.returns-clause-reasons
returns-clause-reasons c = λ channel accepts w bytes pool verdicts b reasons are spelled said.
    c.verifiers_that_agree_give_one_reason.ensures.all channel (accepted_by pool verdicts) accepts w (items_of b) reasons
    (agree c.bytes_have_one_list_of_requests.ensures.agreement accepts bytes pool verdicts are b spelled) said
