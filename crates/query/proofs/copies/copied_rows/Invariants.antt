use Rattle.std.proofs.Common.{◌≡◌, map, take}
use Rattle.query.proofs.copies.copied_rows.Given as goal

abbrev pub invariant-loop-row : goal.invariant-loop-row
invariant-loop-row l = l.copied.items ≡ map (λ row. row.now) (take l.row-index l.rows)
