use Rattle.std.proofs.Common.{sym, ap, ◌∙◌}
use Rattle.std.specs.FinMap.{entries, entries-from_sorted}
use Rattle.rules.specs.State.{key_cmp}
use Rattle.state_db.specs.Batch.{Changes}
use Rattle.state_db.proofs.Tests.{told}
use Rattle.state_db.proofs.batch.Batch.edits.Goals as goal

pub returns-clause-edits : goal.returns-clause-edits
returns-clause-edits c =
    c.as_slice.ensures.value ∙ sym (entries-from_sorted key_cmp c.self.inside.edits.items (told _ c.self.invariant)) ∙ ap (λ (m : Changes). entries m) c.self.view_is
