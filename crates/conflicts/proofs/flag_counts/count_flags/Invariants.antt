use Rattle.std.proofs.Common.{◌≡◌, ◌+◌, ◌++◌, List, take}
use Rattle.reasons.specs.declared.reason.Reason.{Reason}
use Rattle.conflicts.specs.Tally.{AreWithin, CountsFlags}
use Rattle.conflicts.proofs.flag_counts.count_flags.Given as goal

abbrev pub invariant-loop-reason : goal.invariant-loop-reason
invariant-loop-reason l = record {
  total : l.total ≡ l.fn.total + l.reason-index;
  counts : (before : List Reason) → CountsFlags before l.fn.counts → CountsFlags (before ++ take l.reason-index l.reasons) l.counts;
  within : AreWithin l.total l.counts;
}
