use Rattle.std.proofs.Common.{◌≡◌, ◌++◌, take, length}
use Rattle.rules.specs.State.{State}
use Rattle.rules.specs.Delta.{entries_in}
use Rattle.rules.specs.Job.{version_of}
use Rattle.effects.specs.Entries.{entries_written}
use Rattle.key_chains.specs.Job.{keys_of}
use Rattle.effects.specs.Rows.{ShowRows, AreRealRows, HaveKeys, rows_in}
use Rattle.effects.specs.WrittenRow.{with_writes}
use Rattle.effects.proofs.writing.write_all.Given as goal

abbrev pub invariant-loop-place : goal.invariant-loop-place
invariant-loop-place l = record {
  rows : (s : State) → ShowRows l.job (rows_in l.initial.all.rows.items) s → ShowRows l.job (rows_in l.all.rows.items) (with_writes (version_of l.job l.i) s (take l.place l.open_tx.written.items));
  real : AreRealRows l.job (rows_in l.initial.all.rows.items) → AreRealRows l.job (rows_in l.all.rows.items);
  keys : HaveKeys (keys_of l.job) l.initial.all.rows.items → HaveKeys (keys_of l.job) l.all.rows.items;
  count : length l.all.rows.items ≡ length l.initial.all.rows.items;
  entries : entries_in l.all.entries.items ≡ entries_in l.initial.all.entries.items ++ entries_written (version_of l.job l.i) l.open_tx.tx.id (take l.place l.open_tx.written.items);
}
