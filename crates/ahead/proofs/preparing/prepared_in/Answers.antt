use Rattle.std.proofs.Common.{sym, subst}
use Rattle.next_block.specs.declared.prepared.Prepared.{Prepared}
use Rattle.next_block.specs.Prepared.{IsPrepared}
use Rattle.ahead.proofs.preparing.prepared_in.Goals as goal

pub with_text-requires : goal.with_text-requires
with_text-requires g c = ∣ record {
  channel = c.args.channel.now;
  of_text = c.requires;
  is = record { accepts = g.V.Verify.accepts c.args.verifier.now; bytes = c.args.block.now; is = c.in_ok-block.ensures };
} ∣₁

pub returns-clause-prepared : goal.returns-clause-prepared
returns-clause-prepared g c =
    let kept = c.in_ok-with_text.ensures in
    let accepts = g.V.Verify.accepts c.args.verifier.now in
    record {
      channel = c.args.channel.now;
      of_text = c.requires;
      is = subst (λ (b : Prepared). IsPrepared c.args.channel.now accepts c.args.block.now b) (sym kept.1) c.in_ok-block.ensures;
      text_is = kept.0;
    }
