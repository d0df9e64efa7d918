use Rattle.std.proofs.Common.{map, sym, ap, ◌∙◌}
use Rattle.candidates.specs.Rising.{are_rising}
use Rattle.candidates.proofs.Distinct.{distinct_by_order}
use Rattle.candidates.proofs.labels.are_distinct_in_order.Goals as goal

pub returns : goal.returns
returns c =
    c.are_rising.ensures
    ∙ ap (λ labels. are_rising (map (λ label. label.now) labels)) c.as_slice.ensures.value
    ∙ sym (distinct_by_order (λ label. label.now) _ _ c.sort_unstable.ensures.permutation c.sort_unstable.ensures.sorted)
