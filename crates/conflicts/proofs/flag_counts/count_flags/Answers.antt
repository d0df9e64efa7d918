use Rattle.std.proofs.Common.{◌++◌, List, take, subst, arith}
use Rattle.std.proofs.lemmas.List.{take_all}
use Rattle.reasons.specs.declared.reason.Reason.{Reason}
use Rattle.conflicts.specs.Tally.{CountsFlags}
use Rattle.conflicts.proofs.Counting.{joined}
use Rattle.conflicts.proofs.flag_counts.count_flags.Goals as goal

pub loop-reason-preserved : goal.loop-reason-preserved
loop-reason-preserved c =
    let i = c.loop-reason.reason-index in
    let all = c.args.reasons.now in
    record {
      total = omega arith;
      counts = λ before h.
          subst (λ (xs : List Reason). CountsFlags xs c.count.new.counts) (joined before all i c.reason-item.result c.loop-reason-test.true c.reason-item.is)
          (c.count.ensures.counts (before ++ take i all) (c.loop-reason.invariant.counts before h));
      within = c.count.ensures.within;
    }

pub returns-clause-counts : goal.returns-clause-counts
returns-clause-counts c = λ before h.
    subst (λ (xs : List Reason). CountsFlags (before ++ xs) c.loop-reason.counts) (take_all c.loop-reason.reason-index c.args.reasons.now c.loop-reason-test.false)
    (c.loop-reason.invariant.counts before h)
