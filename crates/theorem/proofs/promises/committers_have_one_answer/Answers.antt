use Rattle.theorem.proofs.Steps.{step_back}
use Rattle.theorem.proofs.Determined.{StepsAlike, submit_alike, run_alike}
use Rattle.theorem.proofs.promises.committers_have_one_answer.Goals as goal

pub returns : goal.returns
returns c =
    let one = c.one_step.ensures.one_answer in
    let laws : StepsAlike = λ channel accepts old a b bytes x y s t. one channel accepts old a b bytes x y (step_back channel accepts old a bytes x s) (step_back channel accepts old b bytes y t) in
    record { submit = submit_alike laws; run = run_alike laws }
