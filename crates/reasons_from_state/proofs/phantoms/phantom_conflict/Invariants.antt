use Rattle.std.proofs.Common.{◌≡◌, drop, Option}
use Rattle.reasons.specs.declared.phantom_key.PhantomKey.{PhantomKey}
use Rattle.reasons_from_state.specs.Found.{IsFoundInSet, IsFoundFirst}
use Rattle.reasons_from_state.proofs.phantoms.phantom_conflict.Given as goal

abbrev pub invariant-loop-set : goal.invariant-loop-set
invariant-loop-set l = record {
  board : l.board ≡ l.initial.board;
  left : (x : Option PhantomKey) → IsFoundFirst (IsFoundInSet l.at.job.now l.at.i) (drop l.set-index l.sets) x → IsFoundFirst (IsFoundInSet l.at.job.now l.at.i) l.sets x;
}
