use Rattle.std.proofs.Common.{[], ◌∷◌, ◌++◌, sym, ◌∙◌, arith}
use Rattle.std.proofs.lemmas.List.FromFn.{map-range_with_len_more}
use Rattle.rules.specs.Fold.{flag}
use Rattle.check_workers.proofs.gathering.gather.Goals as goal

pub loop-i-preserved : goal.loop-i-preserved
loop-i-preserved c =
    let e = c.gather_both-flag.ensures in
    let i = c.loop-i.invariant in
    record {
      job = e.job;
      few = omega (arith, i.few, e.count);
      known = e.known;
      flags = c.in_ok-push.ensures.items ∙ (λ t. i.flags t ++ e.flag t ∷ []) ∙ sym (map-range_with_len_more (flag c.args.job.now) 0 c.loop-i.i c.loop-i.i (omega arith));
    }
