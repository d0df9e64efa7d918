use Rattle.std.proofs.Common.{◌≡◌}
use Rattle.command_line.proofs.readers.ask.Given as goal

abbrev pub invariant-loop : goal.invariant-loop
invariant-loop l = l.handle.book ≡ l.fn.handle.book
