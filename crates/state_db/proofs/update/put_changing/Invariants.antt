use Rattle.std.proofs.Common.{◌≡◌, ◌≤◌, ◌++◌, length, take}
use Rattle.std.specs.List.{flat_map}
use Rattle.rules.specs.CommitBytes.{change_bytes}
use Rattle.state_db.specs.Changing.{changing}
use Rattle.state_db.specs.Pages.{joined}
use Rattle.state_db.proofs.update.put_changing.Given as goal

abbrev pub invariant-loop-edit : goal.invariant-loop-edit
invariant-loop-edit l = record {
  bytes : l.out.items ≡ l.fn.out.items ++ flat_map change_bytes (changing (joined l.pages) (take l.edit-index l.edits));
  count : l.count ≡ length (changing (joined l.pages) (take l.edit-index l.edits));
  few : l.count ≤ l.edit-index;
}
