use Rattle.transaction.specs.Grammar.{body_bytes}
use Rattle.policy_eval.proofs.Distinct.{signers_are, signers_differ}
use Rattle.policy_eval.proofs.laws.each_signer_once.Goals as goal

pub returns-clause-signed : goal.returns-clause-signed
returns-clause-signed c = λ accepts tx. signers_are accepts (body_bytes tx) tx.endorsements

pub returns-clause-distinct : goal.returns-clause-distinct
returns-clause-distinct c = λ accepts tx. signers_differ accepts (body_bytes tx) tx.endorsements
