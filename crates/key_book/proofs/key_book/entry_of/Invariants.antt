use Rattle.std.proofs.Common.{◌≡◌, drop}
use Rattle.key_book.specs.Book.{key_in_book}
use Rattle.key_book.proofs.key_book.entry_of.Given as goal

abbrev pub invariant-loop-entry : goal.invariant-loop-entry
invariant-loop-entry l = key_in_book l.identity (drop l.entry-index l.entries) ≡ key_in_book l.identity l.entries
