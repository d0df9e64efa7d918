use Rattle.std.proofs.Common.{ℕ, ◌≡◌, ◌==◌, [], map, sym, subst}
use Rattle.std.specs.Result.{IfOk}
use Rattle.std.proofs.lemmas.List.{length-map}
use Rattle.transaction.specs.Items.{item_of}
use Rattle.rules.specs.Candidate.{candidates_from}
use Rattle.plain.specs.Seen.{seen, channel_with, items_of}
use Rattle.plain.proofs.intake.take_in.Goals as goal

pub returns-clause-candidates : goal.returns-clause-candidates
returns-clause-candidates g c =
    let items = items_of c.args.block.now in
    subst (λ (n : ℕ). IfOk c.taken_in.result (λ r. map seen r.candidates.items ≡ candidates_from (channel_with c.args.channel.now c.args.world.now) (g.V.Verify.accepts c.args.verifier.now) (n == 1) c.args.world.now.first_uses [] items))
    (sym (length-map c.args.block.now.txs.now (item_of c.args.block.now.version))) c.taken_in.ensures.candidates
