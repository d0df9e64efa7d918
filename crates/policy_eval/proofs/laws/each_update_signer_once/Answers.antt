use Rattle.transaction.specs.UpdateGrammar.{update_body_bytes}
use Rattle.policy_eval.proofs.Distinct.{signers_are, signers_differ}
use Rattle.policy_eval.proofs.laws.each_update_signer_once.Goals as goal

pub returns-clause-signed : goal.returns-clause-signed
returns-clause-signed c = λ accepts u. signers_are accepts (update_body_bytes u) u.endorsements

pub returns-clause-distinct : goal.returns-clause-distinct
returns-clause-distinct c = λ accepts u. signers_differ accepts (update_body_bytes u) u.endorsements
