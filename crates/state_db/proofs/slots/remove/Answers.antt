use Rattle.std.proofs.Common.{◌≡◌, ◌<◌, true, false, length, sym, ap, subst, ◌∙◌, arith}
use Rattle.state_db.specs.Pages.{RowList}
use Rattle.state_db.specs.Search.{Falls, leading, is_below, ties_at}
use Rattle.state_db.proofs.Order.{falls_sorted}
use Rattle.state_db.proofs.Puts.{ties_in}
use Rattle.state_db.proofs.Removes.{remove_at, remove_none}
use Rattle.state_db.proofs.slots.remove.Goals as goal

pub count_below-place-requires : goal.count_below-place-requires
count_below-place-requires c =
    subst (λ (es : RowList). Falls (is_below c.args.wanted.now) es) (sym c.as_slice.ensures.value) (falls_sorted c.args.wanted.now c.args.rows.now.items c.requires)

pub remove-requires : goal.remove-requires
remove-requires c =
    let k = c.args.wanted.now in
    let es = c.args.rows.now.items in
    let n = c.count_below-place.result in
    let ties : true ≡ ties_at k es n = sym c.if-is_at.true ∙ c.is_at.ensures ∙ ap (λ (l : RowList). ties_at k l n) c.as_slice-2.ensures.value in
    let lt : n < length es = ties_in k es n (sym ties) in
    omega arith

pub returns-then-is_at-clause-items : goal.returns-then-is_at-clause-items
returns-then-is_at-clause-items c =
    let k = c.args.wanted.now in
    let es = c.args.rows.now.items in
    let n = c.count_below-place.result in
    let ties : true ≡ ties_at k es n = sym c.if-is_at.true ∙ c.is_at.ensures ∙ ap (λ (l : RowList). ties_at k l n) c.as_slice-2.ensures.value in
    c.remove.ensures.items ∙ remove_at k es n c.requires (c.count_below-place.ensures.place ∙ ap (leading (is_below k)) c.as_slice.ensures.value) (sym ties)

pub returns-else-is_at-clause-items : goal.returns-else-is_at-clause-items
returns-else-is_at-clause-items c =
    let k = c.args.wanted.now in
    let es = c.args.rows.now.items in
    let n = c.count_below-place.result in
    let ties : false ≡ ties_at k es n = sym c.if-is_at.false ∙ c.is_at.ensures ∙ ap (λ (l : RowList). ties_at k l n) c.as_slice-2.ensures.value in
    remove_none k es n c.requires (c.count_below-place.ensures.place ∙ ap (leading (is_below k)) c.as_slice.ensures.value) (sym ties)
