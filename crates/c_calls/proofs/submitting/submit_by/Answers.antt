use Rattle.std.proofs.Common.{ℕ, List, Err, inl, refl, subst}
use Rattle.rules.specs.Step.{Step}
use Rattle.rules.specs.declared.answer.Refused.TheVariants.{Memory}
use Rattle.verdicts.specs.declared.verdict.Verdict.{Verdict}
use Rattle.verdicts.specs.Said.{accepted_by}
use Rattle.c_calls.proofs.submitting.submit_by.Goals as goal

-- out of memory, so there is no table
pub returns-in_default : goal.returns-in_default
returns-in_default c =
    inl (record {
      answer = Err Memory;
      step = (tt, refl);
      told_code = c.tell.ensures.code;
      told_receipt = c.tell.ensures.receipt;
      channel_same = refl;
      keys_same = refl;
    })

-- the table is of these verdicts and their pool
pub returns-in-Some : goal.returns-in-Some
returns-in-Some c =
    let old = c.args.kept.now.ledger in
    let made = c.submit_one in
    let stepped : List ℕ → List Verdict → Type 0 = λ pool verdicts. Step old.channel (accepted_by pool verdicts) old.world c.args.block.now c.in-Some.submitted made.new.self.world in
    inl (record {
      answer = c.in-Some.submitted;
      step = subst (λ (verdicts : List Verdict). stepped c.args.pool.now verdicts) c.in-Ok.ensures.verdicts (subst (λ (pool : List ℕ). stepped pool c.in-Ok.table.verdicts.now) c.in-Ok.ensures.pool c.in-Some.ensures.step);
      told_code = c.tell-in-Some.ensures.code;
      told_receipt = c.tell-in-Some.ensures.receipt;
      channel_same = c.in-Some.ensures.channel;
      keys_same = refl;
    })
