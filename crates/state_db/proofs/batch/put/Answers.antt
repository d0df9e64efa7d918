use Rattle.std.proofs.Common.{◌≡◌, ◌<◌, true, false, length, sym, ◌∙◌, arith}
use Rattle.state_db.specs.Search.{leading, is_below, ties_at}
use Rattle.state_db.proofs.Puts.{ties_in, put_set, put_insert}
use Rattle.state_db.proofs.batch.put.Goals as goal

-- what the searches over the lent list and key say of the list and the edit's key
pub index_mut-requires : goal.index_mut-requires
index_mut-requires c =
    let es = c.args.edits.now.items in
    let n = c.place_of-place.result in
    let ties : true ≡ ties_at c.args.edit.0 es n = sym c.if-is_at.true ∙ c.is_at.ensures ∙ (λ i. ties_at (c.wanted-wanted.ensures i) (c.as_slice-2.ensures.value i) n) in
    let lt : n < length es = ties_in c.args.edit.0 es n (sym ties) in
    omega arith

pub returns-then-is_at-clause-ok : goal.returns-then-is_at-clause-ok
returns-then-is_at-clause-ok c =
    let es = c.args.edits.now.items in
    let n = c.place_of-place.result in
    let ties : true ≡ ties_at c.args.edit.0 es n = sym c.if-is_at.true ∙ c.is_at.ensures ∙ (λ i. ties_at (c.wanted-wanted.ensures i) (c.as_slice-2.ensures.value i) n) in
    put_set c.args.edit.0 c.args.edit.1 es n (c.place_of-place.ensures.place ∙ (λ i. leading (is_below (c.wanted-wanted.ensures i)) (c.as_slice.ensures.value i))) (sym ties)

pub returns-clause-ok : goal.returns-clause-ok
returns-clause-ok c =
    let es = c.args.edits.now.items in
    let n = c.place_of-place.result in
    let ties : false ≡ ties_at c.args.edit.0 es n = sym c.if-is_at.false ∙ c.is_at.ensures ∙ (λ i. ties_at (c.wanted-wanted.ensures i) (c.as_slice-2.ensures.value i) n) in
    c.in_ok-insert.ensures.items
    ∙ put_insert c.args.edit.0 c.args.edit.1 es n (c.place_of-place.ensures.place ∙ (λ i. leading (is_below (c.wanted-wanted.ensures i)) (c.as_slice.ensures.value i))) (sym ties)
