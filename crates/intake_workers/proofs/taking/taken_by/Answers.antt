use Rattle.std.proofs.Common.{◌≡◌, ◌∙◌, ap, subst, sym, length}
use Rattle.std.proofs.lemmas.Result.{IfOk-weaker}
use Rattle.pieces.specs.Pieces.{Fits}
use Rattle.intake_workers.specs.declared.part.Part.{Part}
use Rattle.intake_workers.proofs.Crossing.{crossing, part_send}
use Rattle.intake_workers.proofs.Parts.{as_many, taken_fit}
use Rattle.intake_workers.proofs.taking.taken_by.Goals as goal

pub in_pieces-requires-send-X : goal.in_pieces-requires-send-X
in_pieces-requires-send-X g c κs within = search (crossing, part_send) depth 40 fits 100000

pub returns-clause-len : goal.returns-clause-len
returns-clause-len g c =
    IfOk-weaker c.in_pieces.result _ _
    (λ all made. as_many _ _ all.items made ∙ (ap length c.as_slice.ensures.value ∙ c.in_ok-parts.ensures.len)) c.in_pieces.ensures

pub returns-clause-parts : goal.returns-clause-parts
returns-clause-parts g c =
    let count = c.args.count in
    IfOk-weaker c.in_pieces.result _ _
    (λ all made. taken_fit c.args.rules.now.channel.now (g.V.Verify.accepts c.args.rules.now.verifier.now) c.args.block.now count c.as_slice.result.now all.items made
    (subst (Fits (λ number (part : Part). (part.count ≡ count) × (part.number ≡ number))) (sym c.as_slice.ensures.value) c.in_ok-parts.ensures.parts))
    c.in_pieces.ensures
