use Rattle.rules.proofs.Differing.{sorted-differing, find-differing, differing_is}
use Rattle.rules.proofs.laws.rows_differ_where_they_are_not_the_same.Goals as goal

pub returns-clause-in_order : goal.returns-clause-in_order
returns-clause-in_order c = sorted-differing

pub returns-clause-each_key : goal.returns-clause-each_key
returns-clause-each_key c = find-differing

pub returns-clause-no_other : goal.returns-clause-no_other
returns-clause-no_other c = differing_is
