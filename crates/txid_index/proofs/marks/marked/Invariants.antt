use Rattle.std.proofs.Common.{◌≡◌, [], ◌++◌, drop}
use Rattle.txid_index.specs.Marks.{marks}
use Rattle.txid_index.proofs.marks.marked.Given as goal

abbrev pub invariant-loop-id : goal.invariant-loop-id
invariant-loop-id l = l.used.items ++ marks l.before.uses l.earlier.keys (drop l.id-index l.ids) ≡ marks l.before.uses [] l.ids
