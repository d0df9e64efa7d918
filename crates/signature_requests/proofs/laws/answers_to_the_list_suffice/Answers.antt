use Rattle.std.proofs.Common.{map}
use Rattle.signature_requests.specs.Requests.{requests_in}
use Rattle.signature_requests.specs.Agreement.{answer_to}
use Rattle.signature_requests.specs.Told.{told}
use Rattle.signature_requests.proofs.Telling.{told-agrees}
use Rattle.signature_requests.proofs.OneList.{agree_on_bytes}
use Rattle.signature_requests.proofs.SameStep.{step-same}
use Rattle.signature_requests.proofs.SameReasons.{reasons-same}
use Rattle.signature_requests.proofs.laws.answers_to_the_list_suffice.Goals as goal

pub returns-clause-agreement : goal.returns-clause-agreement
returns-clause-agreement c = told-agrees

pub returns-clause-step : goal.returns-clause-step
returns-clause-step c = λ channel accepts old new bytes requests answer are step.
    let knows = told requests (map (answer_to accepts) requests) in
    step-same channel knows accepts old new bytes answer (agree_on_bytes c.one_reading.ensures.one_block knows accepts bytes requests are (told-agrees accepts requests)) step

pub returns-clause-reasons : goal.returns-clause-reasons
returns-clause-reasons c = λ channel accepts w items reasons are.
    let requests = requests_in items in
    reasons-same channel (told requests (map (answer_to accepts) requests)) accepts w items (told-agrees accepts requests) reasons are
