use Rattle.std.proofs.Common.{[], ◌∷◌, ◌++◌, take, sym, ap, ◌∙◌}
use Rattle.std.proofs.lemmas.List.Elements.{filter_map-append}
use Rattle.conflicts.specs.Conflict.{conflict_of, conflicts_of}
use Rattle.conflicts.proofs.Counting.{joined}
use Rattle.conflicts.proofs.conflict.conflicts_of.Goals as goal

pub loop-reason-preserved : goal.loop-reason-preserved
loop-reason-preserved c =
    let i = c.loop-reason.reason-index in
    let all = c.args.reasons.now in
    let item = c.reason-item.result in
    c.in_ok-push_conflict.ensures ∙ ap (λ l. l ++ conflicts_of (item ∷ [])) c.loop-reason.invariant
    ∙ sym (filter_map-append conflict_of (take i all) (item ∷ []))
    ∙ ap conflicts_of (joined [] all i item c.loop-reason-test.true c.reason-item.is)
