use Rattle.std.proofs.Common.{◌∙◌}
use Rattle.next_block.proofs.next_delta.job_of.Goals as goal

pub returns-clause-job : goal.returns-clause-job
returns-clause-job c names accepts items same = c.job_over.ensures ∙ c.in_ok-key_writers.ensures.job c.args.channel.now c.args.taken.items c.in_ok-tentative.ensures names accepts items same

pub returns-clause-ids : goal.returns-clause-ids
returns-clause-ids c = c.in_ok-key_writers.ensures.ids c.args.channel.now c.args.taken.items c.in_ok-tentative.ensures
