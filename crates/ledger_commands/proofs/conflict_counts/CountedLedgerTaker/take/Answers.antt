use Rattle.std.proofs.Common.{[], refl, Err}
use Rattle.std.proofs.lemmas.Result.{IfOk-weaker}
use Rattle.ledger_commands.proofs.Counted.{nothing_more}
use Rattle.ledger_commands.proofs.conflict_counts.CountedLedgerTaker.take.Goals as goal

pub returns-in-Err : goal.returns-in-Err
returns-in-Err c =
    let old = c.args.self.now in
    IfOk-weaker c.status_of_refused.result _ _ (λ status ends. record {
      answer = Err c.in-Err.refused;
      own = [];
      step = (c.in-Err.ensures, refl);
      are_own = refl;
      same_channel = refl;
      same_from = refl;
      counted = λ before h. nothing_more old.tally before h;
      ends = ends;
    }) c.status_of_refused.ensures
