use Rattle.std.proofs.Common.{ap, ◌∙◌}
use Rattle.key_chains.specs.Job.{reads_in}
use Rattle.key_chains.proofs.ReadRows.{read_keys_are}
use Rattle.key_chains.proofs.key_writers.KeyWriters.read_keys.Goals as goal

pub returns : goal.returns
returns c = c.as_slice.ensures.value ∙ read_keys_are c.self.inside.candidates.items c.self.inside.chains c.self.invariant ∙ ap reads_in c.self.view_is
