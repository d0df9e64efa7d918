use Rattle.reason_lists.proofs.laws.answered_verdicts_suffice_for_reasons.Goals as goal

pub returns-clause-reasons : goal.returns-clause-reasons
returns-clause-reasons c = λ channel accepts w bytes pool verdicts reasons are next. record {
  block = next.block;
  spelled = next.spelled;
  linked = next.linked;
  are_reasons = c.answered_verdicts_suffice.ensures.reasons channel accepts w bytes pool verdicts next.block reasons are next.spelled next.are_reasons;
}

pub returns-clause-listed : goal.returns-clause-listed
returns-clause-listed c = λ channel accepts w bytes pool verdicts l are x. record {
  reasons = x.reasons;
  next = record {
    block = x.next.block;
    spelled = x.next.spelled;
    linked = x.next.linked;
    are_reasons = c.answered_verdicts_suffice.ensures.reasons channel accepts w bytes pool verdicts x.next.block x.reasons are x.next.spelled x.next.are_reasons;
  };
  listed = x.listed;
}
