use Rattle.std.proofs.Common.{◌∙◌}
use Rattle.rules.specs.Delta.{changes_in, entries_in, uses_in}
use Rattle.plain.specs.Held.{made_of}
use Rattle.plain.proofs.Worlds.{no_lists}
use Rattle.plain.proofs.world.World.new.Goals as goal

pub returns : goal.returns
returns c = (λ i. made_of c.args.definitions (changes_in (c.new.ensures.items i)) (entries_in (c.new-2.ensures.items i)) (uses_in (c.new-3.ensures.items i))) ∙ no_lists c.args.definitions
