use Rattle.first_version.proofs.Determined.{ReadsOnce, one_step_by, some_step_by, world_of, channel_of}
use Rattle.first_version.proofs.laws.one_first_version_step.Goals as goal

pub returns : goal.returns
returns c =
    let first = c.one_first_version_reading.ensures in
    let laws : ReadsOnce = record { one_block = first.one_block; one_fault = first.one_fault; block_or_fault = first.block_or_fault } in
    record {
      some_answer = λ channel accepts old bytes fits.
          some_step_by channel accepts old bytes (c.one_reading.ensures.some_reading bytes fits) (c.one_step.ensures.some_answer (channel_of channel) accepts (world_of channel.definitions old) bytes fits);
      one_answer = one_step_by laws;
    }
