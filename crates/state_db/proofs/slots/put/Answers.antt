use Rattle.std.proofs.Common.{◌≡◌, ◌<◌, Bool, true, false, length, sym, ap, subst, ◌∙◌, arith}
use Rattle.std.specs.Prelude.{if◌then◌else◌}
use Rattle.std.specs.List.{insert}
use Rattle.std.specs.Vec.{vec_len, vec_capacity}
use Rattle.state_db.specs.Pages.{RowList}
use Rattle.state_db.specs.Search.{IsSorted, leading, is_below, ties_at}
use Rattle.state_db.proofs.Puts.{ties_in, put_set, put_insert}
use Rattle.state_db.proofs.slots.put.Goals as goal

pub place_from-place-requires : goal.place_from-place-requires
place_from-place-requires c = subst (λ (es : RowList). IsSorted es) (sym c.as_slice.ensures.value) c.requires.sorted

pub index_mut-requires : goal.index_mut-requires
index_mut-requires c =
    let es = c.args.rows.now.items in
    let n = c.place_from-place.result in
    let ties : true ≡ ties_at c.args.slot.0 es n = sym c.if-is_at.true ∙ c.is_at.ensures ∙ (λ i. ties_at (c.wanted-wanted.ensures i) (c.as_slice-2.ensures.value i) n) in
    let lt : n < length es = ties_in c.args.slot.0 es n (sym ties) in
    omega arith

pub returns-then-is_at-clause-items : goal.returns-then-is_at-clause-items
returns-then-is_at-clause-items c =
    let es = c.args.rows.now.items in
    let n = c.place_from-place.result in
    let ties : true ≡ ties_at c.args.slot.0 es n = sym c.if-is_at.true ∙ c.is_at.ensures ∙ (λ i. ties_at (c.wanted-wanted.ensures i) (c.as_slice-2.ensures.value i) n) in
    put_set c.args.slot.0 c.args.slot.1 es n (c.place_from-place.ensures.place ∙ (λ i. leading (is_below (c.wanted-wanted.ensures i)) (c.as_slice.ensures.value i))) (sym ties)

pub returns-else-is_at-clause-items : goal.returns-else-is_at-clause-items
returns-else-is_at-clause-items c =
    let es = c.args.rows.now.items in
    let n = c.place_from-place.result in
    let room : vec_len c.args.rows.now < vec_capacity c.args.rows.now = omega arith in
    let ties : false ≡ ties_at c.args.slot.0 es n = sym c.if-is_at.false ∙ c.is_at.ensures ∙ (λ i. ties_at (c.wanted-wanted.ensures i) (c.as_slice-2.ensures.value i) n) in
    c.insert.ensures.items
    ∙ ap (λ (b : Bool). if b then insert es n c.args.slot else es) (c.insert.ensures.succeeds room)
    ∙ put_insert c.args.slot.0 c.args.slot.1 es n (c.place_from-place.ensures.place ∙ (λ i. leading (is_below (c.wanted-wanted.ensures i)) (c.as_slice.ensures.value i))) (sym ties)
