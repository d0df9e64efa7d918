use Rattle.std.proofs.Common.{sym, ap, ◌∙◌}
use Rattle.std.specs.FinMap.{get, empty, get-empty}
use Rattle.rules.specs.declared.row.Row.{Row}
use Rattle.rules.specs.State.{key_cmp, with_changes}
use Rattle.rules.specs.Delta.{changes_in}
use Rattle.plain.specs.Held.{Held}
use Rattle.plain.specs.Keys.{key_of}
use Rattle.plain.proofs.world.World.row_at.Goals as goal

pub returns : goal.returns
returns c =
    c.row_after.ensures empty (sym (get-empty {X = Row} key_cmp (key_of c.args.wanted.now)))
    ∙ ap (λ cs. get (with_changes {X = Row} empty (changes_in cs)) (key_of c.args.wanted.now)) c.as_slice.ensures.value
    ∙ ap (λ (h : Held). get h.state (key_of c.args.wanted.now)) c.self.view_is
