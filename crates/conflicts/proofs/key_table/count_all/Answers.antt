use Rattle.std.proofs.Common.{◌++◌, List, take, subst, arith}
use Rattle.conflicts.specs.declared.conflict.Conflict.{Conflict}
use Rattle.conflicts.specs.Tally.{CountsKeys}
use Rattle.conflicts.proofs.Counting.{joined}
use Rattle.conflicts.proofs.key_table.count_all.Goals as goal

pub loop-conflict-preserved : goal.loop-conflict-preserved
loop-conflict-preserved c =
    let i = c.loop-conflict.conflict-index in
    let all = c.args.conflicts.now in
    record {
      total = omega arith;
      counts = λ before h.
          subst (λ (xs : List Conflict). CountsKeys xs c.count.new.lines.entries) (joined before all i c.conflict-item.result c.loop-conflict-test.true c.conflict-item.is)
          (c.count.ensures.counts (before ++ take i all) (c.loop-conflict.invariant.counts before h));
      there = λ k d l. c.count.ensures.kept _ (c.loop-conflict.invariant.there k d l);
      within = c.count.ensures.within;
    }
