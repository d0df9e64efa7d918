use Rattle.std.proofs.Common.{◌++◌, map, sym, ap, ◌∙◌}
use Rattle.std.specs.Prelude.{reverse}
use Rattle.rules.specs.History.{entries_at}
use Rattle.rules.specs.State.{StateKey}
use Rattle.plain.specs.Entries.{entries_for}
use Rattle.plain.specs.Held.{Held}
use Rattle.plain.specs.Keys.{key_of}
use Rattle.plain.proofs.Histories.{map-reversed, history_of}
use Rattle.plain.proofs.world.World.history.Goals as goal

pub returns : goal.returns
returns c =
    let k : StateKey = (c.args.namespace.now, c.args.key.now) in
    ap (map (λ e. e.now)) c.reverse.ensures.items
    ∙ map-reversed (λ e. e.now) c.add_entries.new.found.items
    ∙ ap reverse (
    c.in_ok-add_entries.ensures
    ∙ ap (λ l. map (λ e. e.now) l ++ entries_for (key_of c.lent.result) c.as_slice.result.now) c.new-found.ensures.items
    ∙ ap (λ (wanted : StateKey). entries_for wanted c.as_slice.result.now) c.lent.ensures
    ∙ ap (entries_for k) c.as_slice.ensures.value)
    ∙ sym (history_of k c.self.inside.entries.items)
    ∙ ap (λ (h : Held). entries_at h.history k) c.self.view_is
