use Rattle.std.proofs.Common.{◌≡◌, ◌++◌}
use Rattle.std.specs.Iterator.Adapters.{zip_first, zip_second}
use Rattle.std.specs.Slice.Iter.{iter_rest}
use Rattle.std.specs.Vec.Iter.{into_iter_items}
use Rattle.rules.specs.Delta.{changes_in}
use Rattle.effects.specs.Rows.{kept_changes_at}
use Rattle.effects.proofs.changes.changes_to_rows.Given as goal

abbrev pub invariant-loop-row : goal.invariant-loop-row
invariant-loop-row l =
    kept_changes_at l.keys l.fn.rows.items ≡ changes_in l.changes.items ++ kept_changes_at (iter_rest (zip_second l.row-iterator)) (into_iter_items (zip_first l.row-iterator))
