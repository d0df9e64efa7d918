use Rattle.std.proofs.Common.{ℕ, List, Option, None, length, replicate, ap, ◌∙◌}
use Rattle.rules.specs.declared.row.Row.{Row}
use Rattle.rules.specs.State.{StateKey}
use Rattle.effects.proofs.writing.write_block.Goals as goal

pub take_all-requires-clause-unwritten : goal.take_all-requires-clause-unwritten
take_all-requires-clause-unwritten c = c.in_ok-rows.ensures ∙ ap (λ (n : ℕ). replicate n None) (ap (λ (ks : List StateKey). length ks) c.keys-count.ensures)
