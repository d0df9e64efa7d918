-- Answers in a list. No public contract cites this.
use Rattle.std.specs.Prelude.{◌≡◌, ◌≤◌, ◌+◌, Bool, true, false, [], ◌∷◌, ◌++◌, Result}
use Rattle.std.specs.Global.{Vec}
use Rattle.std.specs.Vec.{vec_len, vec_capacity}
use Rattle.query.specs.declared.receipt.Receipt.{Receipt}
use Rattle.commit.specs.declared.not_committed.NotCommitted.{NotCommitted}

-- it stands behind the others, unless there was no room
pub record IsCollected (old : Vec (Result Receipt NotCommitted)) (answer : Result Receipt NotCommitted) (there : Bool) (new : Vec (Result Receipt NotCommitted)) : Type 0 where
  pub more : there ≡ true → (new.items ≡ old.items ++ answer ∷ []) × (vec_len new ≡ vec_len old + 1) × (vec_capacity old ≤ vec_capacity new)
  pub full : there ≡ false → vec_capacity old ≤ vec_len old
