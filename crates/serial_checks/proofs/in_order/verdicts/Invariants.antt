use Rattle.std.proofs.Common.{◌≡◌, length, map}
use Rattle.std.specs.List.{range_with_len}
use Rattle.rules.specs.Fold.{flag}
use Rattle.key_chains.specs.Cells.{known_of}
use Rattle.key_chains.specs.Shown.{ShowsBefore}
use Rattle.serial_checks.proofs.in_order.verdicts.Given as goal

abbrev pub invariant-loop-i : goal.invariant-loop-i
invariant-loop-i l = record {
  count : length l.board ≡ length l.job.candidates;
  shown : ShowsBefore l.job l.i (known_of l.board);
  flags : l.flags.items ≡ map (flag l.job) (range_with_len 0 l.i);
}
