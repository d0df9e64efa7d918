use Rattle.std.proofs.Common.{List, ap, ◌∙◌}
use Rattle.std.specs.FinMap.{from_sorted}
use Rattle.state_db.specs.Pages.{RowList, joined}
use Rattle.state_db.proofs.Batches.{nothing}
use Rattle.state_db.proofs.state_db.StateDb.new.Goals as goal

pub returns-clause-state : goal.returns-clause-state
returns-clause-state c = ap (λ (ps : List RowList). from_sorted (joined ps)) c.new.ensures.items ∙ nothing
