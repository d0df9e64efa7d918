use Rattle.std.proofs.Common.{arith}
use Rattle.rules.proofs.Runs.{runs_have_lengths, endorse_decides, reads_decide, reads_decide-refused}
use Rattle.rules.proofs.laws.checks_decide_what_is_known.Goals as goal

pub returns-clause-endorsement : goal.returns-clause-endorsement
returns-clause-endorsement c = λ j events old new i r lt. endorse_decides j i old new lt (omega (arith, (runs_have_lengths j events old r).0))

pub returns-clause-reads : goal.returns-clause-reads
returns-clause-reads c = λ j events old new i r lt. reads_decide j i old new lt (omega (arith, (runs_have_lengths j events old r).1))

pub returns-clause-refused : goal.returns-clause-refused
returns-clause-refused c = λ j events old new i r lt. reads_decide-refused j i old new lt (omega (arith, (runs_have_lengths j events old r).1))
