use Rattle.std.proofs.Common.{sym, ◌∙◌}
use Rattle.std.specs.Ordering.{is_lt, is_le}
use Rattle.values.specs.Order.{bytes_cmp}
use Rattle.rules.specs.State.{key_cmp}
use Rattle.key_chains.specs.Building.{stands_below}
use Rattle.key_chains.proofs.Bounds.{below_empty, below_bound, same_point}
use Rattle.key_chains.proofs.numbering.count_below.Goals as goal

pub returns-then-is_empty-clause-point : goal.returns-then-is_empty-clause-point
returns-then-is_empty-clause-point c =
    same_point (λ k. is_le (bytes_cmp k.0 c.args.namespace.now)) (stands_below c.args.namespace.now c.args.end.now) c.args.keys.now c.count_through.result
    (λ k. below_empty c.args.namespace.now c.args.end.now k (sym c.is_empty.ensures ∙ c.if-is_empty.true)) c.count_through.ensures.point

pub returns-else-is_empty-clause-point : goal.returns-else-is_empty-clause-point
returns-else-is_empty-clause-point c =
    same_point (λ k. is_lt (key_cmp k (c.args.namespace.now, c.args.end.now))) (stands_below c.args.namespace.now c.args.end.now) c.args.keys.now c.count_before.result
    (λ k. below_bound c.args.namespace.now c.args.end.now k (sym c.is_empty.ensures ∙ c.if-is_empty.false)) c.count_before.ensures.point
