use Rattle.std.proofs.Common.{◌≡◌, map, ◌∙◌}
use Rattle.transaction.specs.Items.{item_of}
use Rattle.intake.specs.Place.{taken_of}
use Rattle.ledger.proofs.serial.take_in_next.Goals as goal

-- what is made of two parts is made of what they are
of_parts : {A B C : Type 0} (f : B → C → A) (made : A) (b b' : B) (c c' : C) → made ≡ f b c → b ≡ b' → c ≡ c' → made ≡ f b' c'
of_parts f made b b' c c' is same_b same_c = is ∙ (λ i. f (same_b i) (same_c i))

pub returns : goal.returns
returns g c =
    let channel = c.args.channel.now in
    let accepts = g.V.Verify.accepts c.args.verifier.now in
    record {
      is_taken = record {
        spelled = c.in_ok-block.ensures.0;
        taken = of_parts (λ version txs. map (taken_of channel accepts) (map (item_of version) txs)) _ _ _ _ _ c.in_ok-taken.ensures c.version.ensures c.txs.ensures;
      };
      linked = c.in_ok-block.ensures.1;
    }
