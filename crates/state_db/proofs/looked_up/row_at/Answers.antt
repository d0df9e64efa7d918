use Rattle.std.proofs.Common.{◌≡◌, is_eq, sym, ap, ◌∙◌}
use Rattle.std.specs.FinMap.{get}
use Rattle.rules.specs.State.{key_cmp}
use Rattle.rules.proofs.Keys.{key_ties, same_key_is}
use Rattle.state_db.proofs.LookedUp.{row_at_key}
use Rattle.state_db.proofs.looked_up.row_at.Goals as goal

pub returns-then-is_eq : goal.returns-then-is_eq
returns-then-is_eq c s rows =
    let wanted = c.args.edit.now.0 in
    let k = c.in_ok-key.key.now in
    let same : wanted ≡ k = same_key_is wanted k (sym (key_ties wanted k) ∙ (λ i. is_eq (key_cmp wanted (sym c.wanted.ensures i))) ∙ ap is_eq (sym c.order.ensures) ∙ sym c.is_eq.ensures ∙ c.if-is_eq.true) in
    let keys = c.in_ok-key.ensures.lookup in
    let row = c.in_ok-row.ensures.lookup in
    row_at_key s c.args.keys.now c.args.rows.now c.args.at k c.in_ok-row.row.now rows keys.3.0 keys.1 row.3.0 row.1
    ∙ ap (get s) (sym same)
