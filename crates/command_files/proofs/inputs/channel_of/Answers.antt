use Rattle.command_files.proofs.Failing.{channel_fails}
use Rattle.command_files.proofs.inputs.channel_of.Goals as goal

pub returns-in-Err-clause-err : goal.returns-in-Err-clause-err
returns-in-Err-clause-err c = channel_fails c.args.path.now c.args.text.now c.in-Err.fault c.of_channel.result c.of_channel.ensures.memory c.of_channel.ensures.why c.in-Err.ensures.err
