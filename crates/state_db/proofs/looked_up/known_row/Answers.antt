use Rattle.std.proofs.Common.{sym, ap, ◌∙◌}
use Rattle.std.specs.FinMap.{get}
use Rattle.rules.proofs.Keys.{same_key_is}
use Rattle.state_db.proofs.LookedUp.{row_at_key}
use Rattle.state_db.proofs.looked_up.known_row.Goals as goal

pub returns-then-is_same : goal.returns-then-is_same
returns-then-is_same c s rows =
    let k = c.in_ok-known.known.now in
    let keys = c.in_ok-known.ensures.lookup in
    let row = c.in_ok-row.ensures.lookup in
    row_at_key s c.args.keys.now c.args.rows.now c.args.at k c.in_ok-row.row.now rows keys.3.0 keys.1 row.3.0 row.1
    ∙ ap (get s) (same_key_is k c.args.key.now (sym c.is_same.ensures ∙ c.if-is_same.true))
