use Rattle.std.proofs.Common.{◌≡◌, ◌++◌, false, map}
use Rattle.std.specs.Vec.Iter.{into_iter_items}
use Rattle.intake.specs.Placed.{placed}
use Rattle.intake.proofs.placing.all_new.Given as goal

-- the places so far are done, and the others are left
abbrev pub invariant-loop-place : goal.invariant-loop-place
invariant-loop-place l = record {
  ids : map (λ t. t.id) l.fn.taken.items ≡ l.ids.items ++ map (λ t. t.id) (into_iter_items l.place-iterator);
  candidates : map (λ t. placed l.alone t false) l.fn.taken.items ≡ l.candidates.items ++ map (λ t. placed l.alone t false) (into_iter_items l.place-iterator);
}
