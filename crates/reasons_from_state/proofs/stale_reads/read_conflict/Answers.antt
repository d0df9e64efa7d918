use Rattle.std.proofs.Common.{◌≡◌, List, not, find, option_map, Some, sym, ap, ◌∙◌}
use Rattle.transaction.specs.declared.transaction.Read.{Read}
use Rattle.rules.specs.Fold.{running}
use Rattle.rules.specs.Reads.{read_holds}
use Rattle.reasons.specs.Reads.{stale_read}
use Rattle.reasons_from_state.specs.Found.{stale_in}
use Rattle.reasons_before_state.proofs.FirstThere.{first_is}
use Rattle.reasons_from_state.proofs.stale_reads.read_conflict.Goals as goal

pub returns-in-Some-clause-value : goal.returns-in-Some-clause-value
returns-in-Some-clause-value c =
    let j = c.args.at.now.job.now in
    let i = c.args.at.now.i in
    let n = c.set-item.result in
    let found : stale_in j i n ≡ Some c.in-Some.read =
    ap (λ (rs : List Read). option_map (stale_read j i n.name) (find (λ y. not (read_holds (running j i).state n.name y)) rs)) (sym c.as_slice.ensures)
    ∙ sym c.in_ok-read.ensures.value ∙ c.in-Some.is in
    sym (c.loop-set.invariant.left ∙ first_is (stale_in j i) c.args.sets.now c.loop-set.set-index n c.in-Some.read c.loop-set-test.true c.set-item.is found)
