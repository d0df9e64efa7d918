use Rattle.std.proofs.Common.{[], ℕ, Result, Ok, Err, IfOk, refl, sym, subst}
use Rattle.std.proofs.lemmas.Result.{IfOk-weaker}
use Rattle.std.specs.declared.alloc.AllocError.{AllocError}
use Rattle.key_book.specs.Book.{accepts}
use Rattle.ledger_commands.specs.declared.conflict_counts.CountedLedger.{CountedLedger}
use Rattle.ledger_commands.specs.Counting.{CountedTakes}
use Rattle.rules.specs.declared.answer.Accepted.{Accepted}
use Rattle.rules.specs.declared.answer.Refused.{Refused}
use Rattle.rules.specs.Step.{Step}
use Rattle.ledger_commands.proofs.Counted.{late, nothing_more}
use Rattle.ledger_commands.proofs.conflict_counts.CountedLedger.take_explained.Goals.{in-Ok+in_ok-add-in-Ok, in-Err}
use Rattle.ledger_commands.proofs.conflict_counts.CountedLedger.take_explained.Goals as goal

pub returns : goal.returns
returns c =
    let old = c.args.self.now in
    let bytes = c.args.bytes.now in
    let accepting = accepts c.args.keys.now in
    let world = c.submit_one.new.self.world in
    let step = λ (answer : Result Accepted Refused). Step old.ledger.channel accepting old.ledger.world bytes answer world in
    let takes = λ (r : Result ℕ AllocError) (new : CountedLedger). IfOk r (λ status. CountedTakes accepting old bytes status new) in
    elim c.match-submit_one.branch [
      | in-Ok+in_ok-add-in-Ok w ↦ subst (λ r. takes r c.match-submit_one.self) (sym w.result-is) (subst (λ new. CountedTakes accepting old bytes 0 new) (sym w.self-is) (record {
        answer = Ok w.in-Ok.field-0;
        own = c.args.reasons.now;
        step = subst step w.in-Ok.is c.submit_one.ensures.step;
        are_own = late accepting old.ledger.channel old.from old.ledger.world bytes w.in-Ok.field-0 c.args.reasons.now c.requires.late c.requires.reasons;
        same_channel = c.submit_one.ensures.channel;
        same_from = refl;
        counted = w.in_ok-add-in-Ok.ensures.ok;
        ends = refl;
      }))
      | in-Err w ↦ subst (λ r. takes r c.match-submit_one.self) (sym w.result-is) (subst (takes w.status_of_refused.result) (sym w.self-is) (IfOk-weaker w.status_of_refused.result _ _ (λ status ends. record {
        answer = Err w.in-Err.refused;
        own = [];
        step = subst step w.in-Err.is c.submit_one.ensures.step;
        are_own = refl;
        same_channel = c.submit_one.ensures.channel;
        same_from = refl;
        counted = λ before h. nothing_more old.tally before h;
        ends = ends;
      }) w.status_of_refused.ensures))
    ]
