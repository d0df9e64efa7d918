use Rattle.std.proofs.Common.{◌≡◌, Bool, subst, sym}
use Rattle.rules.specs.declared.read_verdict.ReadVerdict.TheVariants.{Good}
use Rattle.rules.specs.Job.{candidate_at, reads, flag_by}
use Rattle.rules.specs.Fold.{running}
use Rattle.rules.proofs.Sound.{flag_by-false}
use Rattle.serial_checks.proofs.in_order.counted_reads.Goals as goal

pub returns-else-is_endorsed-clause-flag : goal.returns-else-is_endorsed-clause-flag
returns-else-is_endorsed-clause-flag c =
    let j = c.args.job.now in
    let i = c.args.i in
    subst (λ (b : Bool). flag_by (candidate_at j i) b Good ≡ flag_by (candidate_at j i) b (reads j i (running j i).state)) (sym c.if-is_endorsed.false)
    (flag_by-false (candidate_at j i) Good (reads j i (running j i).state))
