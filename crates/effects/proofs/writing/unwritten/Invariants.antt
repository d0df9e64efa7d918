use Rattle.std.proofs.Common.{◌≡◌, replicate, None}
use Rattle.effects.proofs.writing.unwritten.Given as goal

abbrev pub invariant-loop-key : goal.invariant-loop-key
invariant-loop-key l = l.rows.items ≡ replicate l._key None
