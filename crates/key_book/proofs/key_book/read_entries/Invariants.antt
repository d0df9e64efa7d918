use Rattle.std.proofs.Common.{◌≡◌}
use Rattle.key_book.specs.BookText.{book_from, book_of}
use Rattle.key_book.proofs.key_book.read_entries.Given as goal

abbrev pub invariant-loop-statement : goal.invariant-loop-statement
invariant-loop-statement l = book_from l.entries.items l.statement-iterator ≡ book_of l.text
