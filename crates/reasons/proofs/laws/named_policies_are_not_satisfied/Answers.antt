use Rattle.policy_eval.specs.Signers.{signers_of}
use Rattle.rules.specs.Commit.{job_of}
use Rattle.reasons.proofs.Unsatisfied.{key_policy_fails, chaincode_policy_fails, admin_policy_fails}
use Rattle.reasons.proofs.laws.named_policies_are_not_satisfied.Goals as goal

pub returns-clause-of_a_key : goal.returns-clause-of_a_key
returns-clause-of_a_key c = λ channel accepts w txs i namespace key owner lack r.
    key_policy_fails (job_of channel accepts w txs) i r.why.0 (signers_of accepts r.why.0) namespace key owner lack r.why.2

pub returns-clause-of_a_chaincode : goal.returns-clause-of_a_chaincode
returns-clause-of_a_chaincode c = λ channel accepts w txs i chaincode lack r.
    chaincode_policy_fails channel accepts w txs i r.why.0 r.why.1 r.flag_is chaincode lack r.why.2

pub returns-clause-of_the_admin : goal.returns-clause-of_the_admin
returns-clause-of_the_admin c = λ channel accepts w items i lack r.
    admin_policy_fails channel accepts w items i r.why.0 r.why.1 r.flag_is lack r.why.2
