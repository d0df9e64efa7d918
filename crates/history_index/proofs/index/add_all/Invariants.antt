use Rattle.std.proofs.Common.{◌≡◌, ◌+◌, ◌++◌, take, replicate}
use Rattle.std.specs.Vec.{vec_len, vec_capacity}
use Rattle.history_index.specs.Lists.{hashes_of}
use Rattle.history_index.proofs.index.add_all.Given as goal

abbrev pub invariant-loop-entry : goal.invariant-loop-entry
invariant-loop-entry l = record {
  list_of : l.list_of.items ≡ l.initial.list_of.items ++ replicate l.entry-index l.list;
  len : vec_len l.list_of ≡ vec_len l.initial.list_of + l.entry-index;
  capacity : vec_capacity l.list_of ≡ vec_capacity l.initial.list_of;
  hashes : l.index.hashes ≡ l.initial.index.hashes ++ hashes_of (take l.entry-index l.entries);
  room : l.initial.index.room ≡ l.index.room + l.entry-index;
}
