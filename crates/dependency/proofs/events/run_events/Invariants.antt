use Rattle.std.proofs.Common.{take}
use Rattle.rules.specs.Machine.{first_board, Run}
use Rattle.dependency.specs.Rows.{board_of}
use Rattle.dependency.proofs.events.run_events.Given as goal

abbrev pub invariant-loop-event : goal.invariant-loop-event
invariant-loop-event l = Run l.job (first_board l.job) (take l.event-index l.events) (board_of l.board)
