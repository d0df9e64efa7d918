use Rattle.std.proofs.Common.{take}
use Rattle.verdicts.specs.Index.{AnswerAlike}
use Rattle.verdicts.proofs.index.accepted_ones.Given as goal

abbrev pub invariant-loop-verdict : goal.invariant-loop-verdict
invariant-loop-verdict l = AnswerAlike l.accepted.keys l.pool (take l.verdict-index l.verdicts)
