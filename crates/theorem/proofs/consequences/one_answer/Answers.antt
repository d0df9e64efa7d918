use Rattle.theorem.proofs.Steps.{step_there, step_back}
use Rattle.theorem.proofs.consequences.one_answer.Goals as goal

pub returns : goal.returns
returns c = record {
  exists = λ channel accepts old bytes fits.
      let some = c.one_step.ensures.some_answer channel accepts old bytes fits in
      (some.0, some.1, step_there channel accepts old some.1 bytes some.0 some.2, some.3);
  one = λ channel accepts old a b bytes x y s t. c.one_step.ensures.one_answer channel accepts old a b bytes x y (step_back channel accepts old a bytes x s) (step_back channel accepts old b bytes y t);
}
