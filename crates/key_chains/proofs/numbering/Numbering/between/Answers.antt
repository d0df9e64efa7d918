use Rattle.std.proofs.Common.{ℕ, List, ap, ◌∙◌}
use Rattle.rules.specs.State.{StateKey}
use Rattle.rules.specs.Ranges.{is_within}
use Rattle.key_chains.specs.Job.{keys_where}
use Rattle.key_chains.proofs.Bounds.{between_points}
use Rattle.key_chains.proofs.numbering.Numbering.between.Goals as goal

pub returns : goal.returns
returns c =
    between_points c.as_slice-keys.result.now c.args.namespace.now c.as_slice-2.result.now c.as_slice.result.now c.count_before-low.result c.min.result c.count_below-high.result
    c.count_before-low.ensures.point c.count_below-high.ensures.point c.min.ensures
    ∙ ap (λ (start : List ℕ). keys_where c.as_slice-keys.result.now c.args.namespace.now (is_within start c.as_slice.result.now)) c.as_slice-2.ensures.value
    ∙ ap (λ (end : List ℕ). keys_where c.as_slice-keys.result.now c.args.namespace.now (is_within c.args.start.now end)) c.as_slice.ensures.value
    ∙ ap (λ (ks : List StateKey). keys_where ks c.args.namespace.now (is_within c.args.start.now c.args.end.now)) (c.as_slice-keys.ensures.value ∙ c.self.view_is)
