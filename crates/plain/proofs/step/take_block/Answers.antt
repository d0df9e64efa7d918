use Rattle.std.proofs.Common.{ap, ◌∙◌}
use Rattle.rules.specs.Fold.{flags}
use Rattle.rules.specs.Delta.{changes_in, entries_in, uses_in, definitions_in}
use Rattle.plain.specs.Held.{held_after}
use Rattle.plain.specs.Seen.{items_of}
use Rattle.plain.proofs.Steps.{job_is, held_next}
use Rattle.plain.proofs.step.take_block.Goals as goal

pub returns-clause-flags : goal.returns-clause-flags
returns-clause-flags g c = λ w before.
    c.in_ok-folded.ensures.folded.flags ∙ ap flags (job_is c.args.channel.now (g.V.Verify.accepts c.args.verifier.now) c.args.block.now.number c.args.world.now (items_of c.args.block.now) w before)

pub returns-clause-held : goal.returns-clause-held
returns-clause-held g c = λ w kept before.
    c.in_ok-add.ensures.ok
    ∙ ap (λ ds. held_after c.args.world.now (changes_in c.in_ok-folded.folded.changes.items) (entries_in c.in_ok-folded.folded.entries.items) (uses_in c.in_ok-folded.uses.items) (definitions_in ds)) c.as_slice.ensures.value
    ∙ held_next c.args.channel.now (g.V.Verify.accepts c.args.verifier.now) c.args.block.now.number c.args.world.now (items_of c.args.block.now) w before kept c.in_ok-folded.folded _ c.in_ok-folded.ensures.folded c.in_ok-folded.ensures.uses
