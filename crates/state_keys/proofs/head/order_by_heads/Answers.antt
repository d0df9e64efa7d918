use Rattle.std.proofs.Common.{◌≡◌, true, false, sym, ap, ◌∙◌}
use Rattle.std.specs.declared.cmp.Ordering.TheVariants.{Equal}
use Rattle.std.specs.Ordering.{is_eq}
use Rattle.values.specs.Order.{bytes_cmp}
use Rattle.state_keys.specs.Head.{head_of, is_whole}
use Rattle.std.specs.FinMap.{slice_cmp-IsAntisymmetric, nat_cmp-IsAntisymmetric}
use Rattle.state_keys.proofs.Answers.{is_Equal}
use Rattle.state_keys.proofs.Heads.{heads_tell}
use Rattle.state_keys.proofs.head.order_by_heads.Goals.{else-is_eq-via-then-is_eq+else-not-is_whole, else-is_eq-via-else-is_eq}
use Rattle.state_keys.proofs.head.order_by_heads.Goals as goal

pub returns-clause-told : goal.returns-clause-told
returns-clause-told c = λ a b named other_named is other_is.
    let order : c.order_of-order.result ≡ bytes_cmp (head_of a) (head_of b) = c.order_of-order.ensures ∙ (λ i. bytes_cmp (is i) (other_is i)) in
    let whole : c.order_of-order.result ≡ Equal → is_whole c.args.head.now ≡ true = elim c.else-is_eq.branch [
      | else-is_eq-via-then-is_eq+else-not-is_whole w ↦ λ e. sym w.is_whole.ensures ∙ w.if-not-is_whole.false
      | else-is_eq-via-else-is_eq w ↦ λ e. let wrong : false ≡ true = sym w.if-is_eq.false ∙ c.is_eq.ensures ∙ ap is_eq e in cc
    ] in
    order ∙ heads_tell a b named other_named (λ e. ap is_whole (sym is) ∙ whole (order ∙ e))

pub returns-then-not-is_whole-clause-same : goal.returns-then-not-is_whole-clause-same
returns-then-not-is_whole-clause-same c =
    let equal = is_Equal c.order_of-order.result (sym c.is_eq.ensures ∙ c.if-is_eq.true) in (
      slice_cmp-IsAntisymmetric nat_cmp-IsAntisymmetric c.args.head.now c.args.other.now (sym c.order_of-order.ensures ∙ equal),
      sym c.is_whole.ensures ∙ c.if-not-is_whole.true,
    )
