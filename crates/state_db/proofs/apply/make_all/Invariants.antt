use Rattle.std.proofs.Common.{◌≡◌, ◌≤◌, ◌+◌, length}
use Rattle.std.specs.Vec.{vec_capacity}
use Rattle.std.specs.Vec.Iter.{into_iter_items}
use Rattle.state_db.specs.Search.{IsSorted}
use Rattle.state_db.specs.Pages.{joined}
use Rattle.state_db.specs.Edits.{edited}
use Rattle.state_db.specs.Need.{need, AreOpen, AreEmpty}
use Rattle.state_db.specs.Steps.{ArePassed}
use Rattle.state_db.proofs.apply.make_all.Given as goal

abbrev pub invariant-loop-edit : goal.invariant-loop-edit
invariant-loop-edit l = record {
  rows : edited (joined l.pages.items) (into_iter_items l.edit-iterator) ≡ edited (joined l.fn.pages.items) l.fn.edits.items;
  sorted : IsSorted (into_iter_items l.edit-iterator);
  open_ : AreOpen l.pages.items;
  empty_ : AreEmpty l.spare.items;
  stock : need l.pages.items (into_iter_items l.edit-iterator) ≤ length l.spare.items;
  passed : ArePassed (into_iter_items l.edit-iterator) l.pages.items l.at;
  room : length l.pages.items + length l.spare.items ≤ vec_capacity l.pages;
}
