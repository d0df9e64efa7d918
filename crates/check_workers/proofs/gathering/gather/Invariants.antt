use Rattle.std.proofs.Common.{◌≡◌, ◌<◌, ◌≤◌, ◌*◌, ℕ, map}
use Rattle.std.specs.List.{range_with_len}
use Rattle.rules.specs.Fold.{flag}
use Rattle.verdict_words.specs.Cells.{IsKnown}
use Rattle.check_workers.proofs.gathering.gather.Given as goal

abbrev pub invariant-loop-i : goal.invariant-loop-i
invariant-loop-i l = record {
  job : l.seat.job ≡ l.job;
  few : l.gathered ≤ 2 * l.i;
  known : (k : ℕ) → k < 2 * l.i → IsKnown l.seat.known k;
  flags : l.flags.items ≡ map (flag l.job) (range_with_len 0 l.i);
}
