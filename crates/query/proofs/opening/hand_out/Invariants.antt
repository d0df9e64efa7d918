use Rattle.std.proofs.Common.{◌≡◌, ◌≤◌, length, All, vec_capacity}
use Rattle.left_right.specs.Sides.{view}
use Rattle.query.proofs.opening.hand_out.Given as goal

abbrev pub invariant-loop : goal.invariant-loop
invariant-loop g l = record {
  place : view l.writer.desk.place ≡ view l.fn.writer.desk.place;
  shown : l.writer.desk.shown ≡ l.fn.writer.desk.shown;
  log : l.writer.log ≡ l.fn.writer.log;
  behind : l.writer.behind ≡ l.fn.writer.behind;
  count : length l.handles.items ≡ l.counter;
  room : l.readers ≤ vec_capacity l.handles;
  handles : All (λ h. h ≡ record { book = l.fn.writer.desk.shown.value.front.book; base = l.fn.writer.desk.shown.value.world; list = l.fn.writer.desk.shown.value.front.list }) l.handles.items;
}
