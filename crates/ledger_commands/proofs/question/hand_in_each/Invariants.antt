use Rattle.std.proofs.Common.{◌≡◌, ◌+◌, ℕ, length}
use Rattle.std.specs.Vec.Iter.{into_iter_items}
use Rattle.key_book.specs.Book.{accepts}
use Rattle.ledger_commands.specs.Handing.{AreTaken}
use Rattle.ledger_commands.proofs.question.hand_in_each.Given as goal

-- those that were taken, and then those that are left, are all
abbrev pub invariant-loop-bytes : goal.invariant-loop-bytes
invariant-loop-bytes g l = record {
  place : l.place + length (into_iter_items l.bytes-iterator) ≡ length l.fn.blocks.items;
  taken : (status : ℕ) → (last : _) → AreTaken (g.T.Taker.takes (accepts l.keys)) l.taker l.status (into_iter_items l.bytes-iterator) status last → AreTaken (g.T.Taker.takes (accepts l.keys)) l.fn.taker 0 l.fn.blocks.items status last;
}
