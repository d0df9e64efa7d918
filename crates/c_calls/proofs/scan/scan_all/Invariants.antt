use Rattle.std.proofs.Common.{◌≡◌, ◌++◌, drop, map, length}
use Rattle.c_calls.specs.Scanned.{scan_pool, scan_rows}
use Rattle.c_calls.proofs.scan.scan_all.Given as goal

-- what is listed so far, with what is left of the rows, is all
abbrev pub invariant-loop-keyed : goal.invariant-loop-keyed
invariant-loop-keyed l = record {
  pool : l.pool.items ++ scan_pool (map (λ row. row.now) (drop l.keyed-index l.fn.answer.rows.items)) ≡ scan_pool (map (λ row. row.now) l.fn.answer.rows.items);
  rows : l.rows.items ++ scan_rows (length l.pool.items) (map (λ row. row.now) (drop l.keyed-index l.fn.answer.rows.items)) ≡ scan_rows 0 (map (λ row. row.now) l.fn.answer.rows.items);
}
