use Rattle.std.proofs.Common.{rules, ◌≡◌, Ok, sym, ap, subst, ◌∙◌}
use Rattle.std.proofs.Math.Logic.{∥∥₁_elim, ∥∥₁_prop}
use Rattle.channel.specs.Configuration.{Configuration}
use Rattle.channel.specs.Text.{configuration_of}
use Rattle.ledger.specs.Prepared.{IsPreparedIn}
use Rattle.ahead.proofs.preparing.submit_prepared.Goals as goal

pub submit_prepared-requires : goal.submit_prepared-requires
submit_prepared-requires c =
    let text : c.args.prepared.text ≡ c.args.text.now = search rules in
    ∥∥₁_elim c.args.prepared.made ∥∥₁_prop (λ made.
    let one : Ok made.channel ≡ Ok c.args.ledger.now.channel = sym made.of_text ∙ ap configuration_of text ∙ c.requires in
    let same : made.channel ≡ c.args.ledger.now.channel = cc in
    ∣ subst (λ (channel : Configuration). IsPreparedIn channel c.args.prepared.block) same made.is ∣₁)
