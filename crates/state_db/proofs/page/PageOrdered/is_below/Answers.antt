use Rattle.std.proofs.Common.{sym, ap, ◌∙◌, arith}
use Rattle.std.specs.Ordering.{is_lt}
use Rattle.state_db.specs.Pages.{last_head, is_page_below}
use Rattle.state_db.proofs.PageOrder.{its_head, its_order}
use Rattle.state_db.proofs.page.PageOrdered.is_below.Goals as goal

pub order_with-requires : goal.order_with-requires
order_with-requires c =
    c.self.invariant.0 ∙ ap last_head (sym c.deref.ensures.value)
    ∙ its_head c.deref.result.now c.in-Some.last.now (omega (arith, c.in-Some.ensures.item.3.0)) c.in-Some.ensures.item.1

pub returns-in-Some : goal.returns-in-Some
returns-in-Some c =
    let k = c.args.wanted.now in
    c.is_lt.ensures ∙ ap is_lt c.order_with.ensures
    ∙ sym (its_order k c.deref.result.now c.in-Some.last.now (omega (arith, c.in-Some.ensures.item.3.0)) c.in-Some.ensures.item.1)
    ∙ ap (is_page_below k) (c.deref.ensures.value ∙ c.self.view_is)
