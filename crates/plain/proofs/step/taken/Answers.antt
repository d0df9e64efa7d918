use Rattle.std.proofs.Common.{length, map, refl, sym, ap, subst, ◌∙◌, arith}
use Rattle.std.proofs.lemmas.List.{length-map}
use Rattle.transaction.specs.Items.{item_of}
use Rattle.std.specs.Option.{option_copied}
use Rattle.rules.specs.Job.{Job}
use Rattle.plain.specs.Seen.{seen, items_of}
use Rattle.plain.specs.Taking.{IsFolded}
use Rattle.plain.proofs.Steps.{count-candidates, count-ids, count-flags, same_job}
use Rattle.plain.proofs.step.taken.Goals as goal

pub fold-requires : goal.fold-requires
fold-requires g c =
    let count = ap length c.as_slice.ensures.value ∙ count-candidates c.args.channel.now (g.V.Verify.accepts c.args.verifier.now) c.args.block.now.number c.args.world.now (items_of c.args.block.now) c.in_ok-intake.intake.candidates.items c.in_ok-intake.ensures.candidates ∙ length-map c.args.block.now.txs.now (item_of c.args.block.now.version) in
    omega (arith, count, c.requires)

pub uses_of-requires-clause-same : goal.uses_of-requires-clause-same
uses_of-requires-clause-same g c =
    let accepts = g.V.Verify.accepts c.args.verifier.now in
    let txs = items_of c.args.block.now in
    let job = same_job c.args.channel.now accepts c.args.block.now.number c.args.world.now txs (option_copied c.admin.result) c.args.world.now.definitions c.as_slice.result.now c.admin.ensures refl (ap (map seen) c.as_slice.ensures.value ∙ c.in_ok-intake.ensures.candidates) in
    ap length c.as_slice-2.ensures.value
    ∙ count-ids c.args.channel.now accepts c.args.block.now.number c.args.world.now txs c.in_ok-intake.intake.ids.items c.in_ok-intake.ensures.ids
    ∙ sym (count-flags c.args.channel.now accepts c.args.block.now.number c.args.world.now txs c.in_ok-folded.folded (subst (λ (j : Job). IsFolded j c.in_ok-folded.folded) job c.in_ok-folded.ensures))
    ∙ ap length (sym c.as_slice-3.ensures.value)
