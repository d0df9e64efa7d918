use Rattle.std.proofs.Common.{length, ◌-◌, ◌≡◌, ◌≤◌, ◌++◌, map, take, drop}
use Rattle.rules.specs.Flags.{number_of}
use Rattle.c_calls.proofs.buffers.put_flags.Given as goal

-- the numbers so far, and behind them what stood there
abbrev pub invariant-loop-i : goal.invariant-loop-i
invariant-loop-i l = record { bound : l.i ≤ length l.flags; written : l.out ≡ map number_of (take l.i l.flags) ++ drop l.i l.fn.out }

abbrev pub decreases-loop-i : goal.decreases-loop-i
decreases-loop-i l = length l.flags - l.i
