use Rattle.std.proofs.Common.{◌≡◌, ◌+◌, IfSome, length}
use Rattle.std.specs.List.{All}
use Rattle.std.specs.Vec.Iter.{into_iter_items}
use Rattle.command_line.specs.Handing.{ReadersTold}
use Rattle.command_line.proofs.readers.write_heights.Given as goal

-- those that are left, and those whose lines were written, are all
abbrev pub invariant-loop-reader : goal.invariant-loop-reader
invariant-loop-reader g l =
    All (λ reader. IfSome l.last (λ receipt. reader.promise.0.value.book ≡ receipt.front.book)) (into_iter_items l.reader-iterator)
    × (l.place + length (into_iter_items l.reader-iterator) ≡ length l.fn.readers.items)
    × ReadersTold l.style l.place l.last (g.W.Write.contents l.fn.out) (g.W.Write.contents l.out)
