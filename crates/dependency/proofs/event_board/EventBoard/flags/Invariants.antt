use Rattle.std.proofs.Common.{◌≡◌, map, take}
use Rattle.dependency.specs.Rows.{flag_number}
use Rattle.dependency.proofs.event_board.EventBoard.flags.Given as goal

abbrev pub invariant-loop-i : goal.invariant-loop-i
invariant-loop-i l = l.numbers.items ≡ map flag_number (take l.i (map (λ c. c.flag) l.self-inside.cells))
