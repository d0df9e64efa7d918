use Rattle.signature_requests.proofs.SameReasons.{reason-same, reasons-same}
use Rattle.signature_requests.proofs.laws.verifiers_that_agree_give_one_reason.Goals as goal

pub returns-clause-each : goal.returns-clause-each
returns-clause-each c = λ channel accepts others w items i reason agree is. reason-same channel accepts others w items agree i reason is

pub returns-clause-all : goal.returns-clause-all
returns-clause-all c = λ channel accepts others w items reasons agree are. reasons-same channel accepts others w items agree reasons are
