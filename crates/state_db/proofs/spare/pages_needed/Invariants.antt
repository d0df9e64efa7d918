use Rattle.std.proofs.Common.{◌≡◌, ◌+◌, ◌-◌, ◌≤◌, drop}
use Rattle.state_db.specs.Need.{need, cost, AreOpen}
use Rattle.state_db.proofs.spare.pages_needed.Given as goal

abbrev pub invariant-loop-edit : goal.invariant-loop-edit
invariant-loop-edit l = record {
  open_ : AreOpen l.left;
  cost_ : l.needed + cost l.rows l.left (drop l.edit-index l.edits) ≡ need l.pages l.edits;
  bound : l.needed + (l.rows - 256) ≤ l.edit-index;
}
