use Rattle.std.proofs.Common.{◌≡◌, drop, Option}
use Rattle.reasons.specs.declared.phantom_key.PhantomKey.{PhantomKey}
use Rattle.reasons_from_state.specs.Found.{IsFoundInRange, IsFoundFirst}
use Rattle.reasons_from_state.proofs.phantoms.ranges_conflict.Given as goal

abbrev pub invariant-loop-range : goal.invariant-loop-range
invariant-loop-range l = record {
  board : l.board ≡ l.initial.board;
  left : (x : Option PhantomKey) → IsFoundFirst (IsFoundInRange l.at.job.now l.at.i l.namespace) (drop l.range-index l.ranges) x → IsFoundFirst (IsFoundInRange l.at.job.now l.at.i l.namespace) l.ranges x;
}
