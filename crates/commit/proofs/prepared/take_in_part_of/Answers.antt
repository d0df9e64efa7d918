use Rattle.std.proofs.Common.{subst}
use Rattle.std.proofs.lemmas.Result.{IfOk-weaker}
use Rattle.block.specs.declared.block.Block.{Block}
use Rattle.intake_workers.specs.Parts.{IsTakenPart}
use Rattle.rules.specs.declared.answer.Refused.{Refused}
use Rattle.rules.specs.Linked.{IsRefused}
use Rattle.rules.specs.World.{empty_world}
use Rattle.commit.proofs.prepared.take_in_part_of.Goals as goal

-- the bytes spell one block alone
pub returns-in-Ok : goal.returns-in-Ok
returns-in-Ok g c =
    let accepts = g.V.Verify.accepts in
    let block = c.in-Ok.block in
    IfOk-weaker c.take_in_part.result _ _
    (λ part is. record {
      of = λ b spelled.
          subst (λ (x : Block). IsTakenPart c.args.context.now.channel.now (accepts c.args.context.now.verifier.now) x c.args.part.count c.args.part.number part)
          (c.one_reading.ensures.one_block c.args.bytes.now block b c.in-Ok.ensures spelled)
          (subst (λ x. x) (λ i. IsTakenPart (c.rules.ensures.channel i) (accepts (c.rules.ensures.verifier i)) block c.args.part.count c.args.part.number part) is);
    })
    c.take_in_part.ensures

-- or none, which any world says
pub returns-in-Err-Malformed : goal.returns-in-Err-Malformed
returns-in-Err-Malformed g c =
    let w = empty_world c.args.context.now.channel.now.definitions in
    record {
      of = λ b spelled. absurd (c.one_reading.ensures.block_or_fault c.args.bytes.now b c.in-Err-Malformed.field-0-0 spelled
          (subst (λ (r : Refused). IsRefused w c.args.bytes.now r) c.in-Err-Malformed.field-0-is (c.in-Err-Malformed.ensures w)));
    }
