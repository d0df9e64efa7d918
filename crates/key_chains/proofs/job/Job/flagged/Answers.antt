use Rattle.std.proofs.Common.{inr, sym, ap, ◌∙◌}
use Rattle.candidates.specs.Seen.{seen}
use Rattle.key_chains.proofs.job.Job.flagged.Goals as goal

pub returns-in-Updates : goal.returns-in-Updates
returns-in-Updates c = inr (c.in-Updates.field-0.update, c.in-Updates.field-0.signers, sym c.candidate.ensures.value ∙ ap seen c.in-Updates.is)
