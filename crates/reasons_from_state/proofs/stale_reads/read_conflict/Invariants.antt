use Rattle.std.proofs.Common.{◌≡◌, map, drop}
use Rattle.reasons.specs.First.{first_there}
use Rattle.reasons_from_state.specs.Found.{stale_in}
use Rattle.reasons_from_state.proofs.stale_reads.read_conflict.Given as goal

abbrev pub invariant-loop-set : goal.invariant-loop-set
invariant-loop-set l = record {
  board : l.board ≡ l.initial.board;
  left : first_there (map (stale_in l.at.job.now l.at.i) l.sets) ≡ first_there (map (stale_in l.at.job.now l.at.i) (drop l.set-index l.sets));
}
