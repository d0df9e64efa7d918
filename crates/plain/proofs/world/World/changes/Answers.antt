use Rattle.std.proofs.Common.{sym, ap, ◌∙◌}
use Rattle.std.specs.FinMap.{empty}
use Rattle.rules.specs.declared.row.Row.{Row}
use Rattle.rules.specs.State.{with_changes}
use Rattle.rules.specs.Delta.{changes_in}
use Rattle.plain.specs.Held.{Held}
use Rattle.plain.proofs.world.World.changes.Goals as goal

pub returns : goal.returns
returns c = sym (ap (λ (h : Held). h.state) c.self.view_is) ∙ ap (λ cs. with_changes {X = Row} empty (changes_in cs)) (sym c.as_slice.ensures.value)
