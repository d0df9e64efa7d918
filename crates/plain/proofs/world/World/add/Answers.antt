use Rattle.std.proofs.Common.{◌++◌, ap, ◌∙◌}
use Rattle.rules.specs.Delta.{changes_in, entries_in, uses_in, definitions_in}
use Rattle.plain.specs.Held.{Held, held_after}
use Rattle.plain.proofs.Worlds.{held_more}
use Rattle.plain.proofs.world.World.add.Goals as goal

pub returns-clause-ok : goal.returns-clause-ok
returns-clause-ok c =
    held_more c.self.inside.definitions c.in_ok-after.after c.self.inside.changes.items c.args.changes.items _ c.self.inside.entries.items c.args.entries.items _ c.self.inside.uses.items c.args.uses.items _ (definitions_in c.args.definitions.now)
    (c.append_reserved.ensures ∙ ap (λ l. l ++ c.args.changes.items) c.reserve.ensures.items)
    (c.append_reserved-2.ensures ∙ ap (λ l. l ++ c.args.entries.items) c.reserve-2.ensures.items)
    (c.append_reserved-3.ensures ∙ ap (λ l. l ++ c.args.uses.items) c.reserve-3.ensures.items)
    c.in_ok-after.ensures
    ∙ ap (λ (h : Held). held_after h (changes_in c.args.changes.items) (entries_in c.args.entries.items) (uses_in c.args.uses.items) (definitions_in c.args.definitions.now)) c.self.view_is
