use Rattle.rules.proofs.Determined.{ReadsOnce, one_step_by, some_step_by}
use Rattle.rules.proofs.laws.one_step.Goals as goal

pub returns : goal.returns
returns c =
    let read = c.one_reading.ensures in
    let laws : ReadsOnce = record { one_block = read.one_block; one_fault = read.one_fault; block_or_fault = read.block_or_fault } in
    record {
      some_answer = λ channel accepts old bytes fits. some_step_by channel accepts old bytes (read.some_reading bytes fits);
      one_answer = one_step_by laws;
    }
