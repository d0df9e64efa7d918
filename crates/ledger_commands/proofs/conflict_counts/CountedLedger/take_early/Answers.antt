use Rattle.std.proofs.Common.{ℕ, Result, Ok, Err, IfOk, refl, sym, subst}
use Rattle.std.proofs.lemmas.Result.{IfOk-weaker}
use Rattle.std.specs.declared.alloc.AllocError.{AllocError}
use Rattle.key_book.specs.Book.{accepts}
use Rattle.ledger_commands.specs.declared.conflict_counts.CountedLedger.{CountedLedger}
use Rattle.ledger_commands.specs.Counting.{CountedTakes}
use Rattle.rules.specs.declared.answer.Accepted.{Accepted}
use Rattle.rules.specs.declared.answer.Refused.{Refused}
use Rattle.rules.specs.Step.{Step}
use Rattle.ledger_commands.proofs.Counted.{early_takes}
use Rattle.ledger_commands.proofs.conflict_counts.CountedLedger.take_early.Goals.{in-Ok, in-Err}
use Rattle.ledger_commands.proofs.conflict_counts.CountedLedger.take_early.Goals as goal

pub returns : goal.returns
returns c =
    let old = c.args.self.now in
    let bytes = c.args.bytes.now in
    let accepting = accepts c.args.keys.now in
    let ledger = c.submit_one.new.self in
    let new : CountedLedger = record { ledger = ledger; tally = old.tally; from = old.from } in
    let step = λ (answer : Result Accepted Refused). Step old.ledger.channel accepting old.ledger.world bytes answer ledger.world in
    let takes = λ (r : Result ℕ AllocError). IfOk r (λ status. CountedTakes accepting old bytes status new) in
    elim c.match-submit_one.branch [
      | in-Ok w ↦ subst takes (sym w.result-is) (early_takes accepting old bytes ledger (Ok w.in-Ok.field-0) 0 c.requires (subst step w.in-Ok.is c.submit_one.ensures.step) c.submit_one.ensures.channel refl)
      | in-Err w ↦ subst takes (sym w.result-is) (IfOk-weaker w.status_of_refused.result _ _ (λ status ends.
          early_takes accepting old bytes ledger (Err w.in-Err.refused) status c.requires (subst step w.in-Err.is c.submit_one.ensures.step) c.submit_one.ensures.channel ends) w.status_of_refused.ensures)
    ]
