use Rattle.std.proofs.Common.{◌<◌, List, length, get_or, map, subst, ap, ◌∙◌}
use Rattle.transaction.specs.declared.transaction.NsSet.{NsSet}
use Rattle.key_chains.proofs.Gathering.{one_more}
use Rattle.key_chains.proofs.chains.add_read_keys.Goals as goal

pub loop-set-preserved : goal.loop-set-preserved
loop-set-preserved c =
    one_more (λ n. map (λ r. (n.name, r.key)) n.reads) _ _ _ c.args.tx.now.namespaces c.loop-set.set-index c.set-item.result
    (subst (λ (l : List NsSet). c.loop-set.set-index < length l) c.as_slice-set-items.ensures c.loop-set-test.true)
    (c.set-item.is ∙ ap (λ (l : List NsSet). get_or l c.loop-set.set-index c.set-item.result) c.as_slice-set-items.ensures)
    c.loop-set.invariant c.in_ok-add_read_keys_in.ensures
