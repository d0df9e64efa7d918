use Rattle.std.proofs.Common.{◌≡◌, not, find, drop}
use Rattle.rules.specs.Fold.{running}
use Rattle.rules.specs.Reads.{read_holds}
use Rattle.reasons_from_state.proofs.stale_reads.first_stale.Given as goal

abbrev pub invariant-loop-read : goal.invariant-loop-read
invariant-loop-read l = record {
  board : l.board ≡ l.initial.board;
  left : find (λ y. not (read_holds (running l.at.job.now l.at.i).state l.namespace y)) l.reads ≡ find (λ y. not (read_holds (running l.at.job.now l.at.i).state l.namespace y)) (drop l.read-index l.reads);
}
