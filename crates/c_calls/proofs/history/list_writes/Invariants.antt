use Rattle.std.proofs.Common.{◌≡◌, ◌++◌, length}
use Rattle.c_calls.specs.Past.{past_pool, past_writes}
use Rattle.c_calls.proofs.history.list_writes.Given as goal

-- what is listed so far, with what is left of the entries, is all
abbrev pub invariant-loop-entry : goal.invariant-loop-entry
invariant-loop-entry l = record {
  pool : l.pool.items ++ past_pool l.entry-iterator ≡ past_pool l.fn.entries;
  writes : l.writes.items ++ past_writes (length l.pool.items) l.entry-iterator ≡ past_writes 0 l.fn.entries;
}
