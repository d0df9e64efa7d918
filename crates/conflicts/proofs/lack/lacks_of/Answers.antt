use Rattle.std.proofs.Common.{[], ◌∷◌, ◌++◌, take, sym, ap, ◌∙◌}
use Rattle.std.proofs.lemmas.List.Elements.{filter_map-append}
use Rattle.conflicts.specs.Lack.{lack_of, lacks_of}
use Rattle.conflicts.proofs.Counting.{joined}
use Rattle.conflicts.proofs.lack.lacks_of.Goals as goal

pub loop-reason-preserved : goal.loop-reason-preserved
loop-reason-preserved c =
    let i = c.loop-reason.reason-index in
    let all = c.args.reasons.now in
    let item = c.reason-item.result in
    c.in_ok-push_lack.ensures ∙ ap (λ l. l ++ lacks_of (item ∷ [])) c.loop-reason.invariant
    ∙ sym (filter_map-append lack_of (take i all) (item ∷ []))
    ∙ ap lacks_of (joined [] all i item c.loop-reason-test.true c.reason-item.is)
