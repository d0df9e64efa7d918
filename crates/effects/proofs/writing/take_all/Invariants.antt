use Rattle.std.proofs.Common.{◌≡◌, length}
use Rattle.rules.specs.Fold.{running}
use Rattle.key_chains.specs.Job.{keys_of}
use Rattle.effects.specs.Entries.{MakeHistory}
use Rattle.effects.specs.Rows.{ShowRows, AreRealRows, HaveKeys, rows_in}
use Rattle.effects.proofs.writing.take_all.Given as goal

abbrev pub invariant-loop-i : goal.invariant-loop-i
invariant-loop-i l = record {
  rows : ShowRows l.job (rows_in l.all.rows.items) (running l.job l.i).state;
  real : AreRealRows l.job (rows_in l.all.rows.items);
  keys : HaveKeys (keys_of l.job) l.all.rows.items;
  count : length l.all.rows.items ≡ length (keys_of l.job);
  entries : MakeHistory l.job l.all.entries.items l.i;
}
