use Rattle.std.proofs.Common.{sym, ap, ◌∙◌}
use Rattle.std.specs.FinMap.{get, find}
use Rattle.values.specs.Order.{bytes_cmp}
use Rattle.rules.specs.Delta.{uses_in}
use Rattle.plain.specs.Held.{Held}
use Rattle.plain.proofs.Worlds.{first_use_of}
use Rattle.plain.proofs.world.World.flag_of.Goals as goal

pub returns : goal.returns
returns c =
    c.use_in.ensures
    ∙ ap (λ us. find bytes_cmp c.args.id.now (uses_in us)) c.as_slice.ensures.value
    ∙ sym (first_use_of (uses_in c.self.inside.uses.items) c.args.id.now)
    ∙ ap (λ (h : Held). get h.first_uses c.args.id.now) c.self.view_is
