use Rattle.std.proofs.Common.{◌∙◌, ap, map}
use Rattle.intake.specs.Place.{shown}
use Rattle.intake_workers.proofs.Parts.{all_parts}
use Rattle.intake_workers.proofs.taken_part.join_parts.Goals as goal

pub returns-clause-items : goal.returns-clause-items
returns-clause-items g c =
    ap (map shown) c.in_ok-items.ensures
    ∙ all_parts c.args.rules.now.channel.now (g.V.Verify.accepts c.args.rules.now.verifier.now) c.args.block c.args.parts.items c.requires.some c.requires.parts
