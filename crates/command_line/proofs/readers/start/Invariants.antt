use Rattle.std.proofs.Common.{◌≡◌, ◌+◌, length}
use Rattle.std.specs.List.{All}
use Rattle.std.specs.Vec.Iter.{into_iter_items}
use Rattle.command_line.proofs.readers.start.Given as goal

abbrev pub invariant-loop-handle : goal.invariant-loop-handle
invariant-loop-handle g l =
    All (λ reader. reader.promise.0.value.book ≡ l.committer.book) l.readers.items
    × All (λ handle. handle.book ≡ l.committer.book) (into_iter_items l.handle-iterator)
    × (length l.readers.items + length (into_iter_items l.handle-iterator) ≡ length l.fn.handles.items)
