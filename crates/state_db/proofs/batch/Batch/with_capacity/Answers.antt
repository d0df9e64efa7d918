use Rattle.std.proofs.Common.{ap, ◌∙◌}
use Rattle.std.specs.FinMap.{from_sorted}
use Rattle.state_db.proofs.Batches.{nothing}
use Rattle.state_db.proofs.batch.Batch.with_capacity.Goals as goal

pub returns : goal.returns
returns c = ap from_sorted c.in_ok-with_capacity.ensures.items ∙ nothing
