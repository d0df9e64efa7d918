use Rattle.std.proofs.lemmas.List.Filters.{dedup_is}
use Rattle.candidates.proofs.KeysInOrder.{sorted_is, sorted_rise, sorted_stay}
use Rattle.candidates.proofs.in_order.keys_in_order.Goals as goal

pub returns : goal.returns
returns c =
    let is = dedup_is _ _ _ c.dedup.ensures.filtered in
    let moved = c.sort_unstable.ensures.permutation in
    let up = c.sort_unstable.ensures.sorted in
    record {
      value = rw is (sorted_is _ _ moved up);
      rising = rw is (sorted_rise _ up);
      members = λ k. rw is (sorted_stay k _ _ moved);
    }
