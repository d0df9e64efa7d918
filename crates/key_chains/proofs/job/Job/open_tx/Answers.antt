use Rattle.std.proofs.Common.{inr, sym, ap, ◌∙◌}
use Rattle.candidates.specs.Seen.{seen}
use Rattle.key_chains.proofs.job.Job.open_tx.Goals as goal

pub returns-in-Updates-clause-tx : goal.returns-in-Updates-clause-tx
returns-in-Updates-clause-tx c = inr (c.in-Updates.field-0.update, c.in-Updates.field-0.signers, sym c.candidate.ensures.value ∙ ap seen c.in-Updates.is)
