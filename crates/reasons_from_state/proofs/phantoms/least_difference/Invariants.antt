use Rattle.std.proofs.Common.{◌≡◌, drop, None}
use Rattle.rules.specs.Fold.{running}
use Rattle.reasons.specs.Ranges as spec
use Rattle.reasons_from_state.specs.Differences.{differs_at, least_where}
use Rattle.reasons_from_state.proofs.phantoms.least_difference.Given as goal

abbrev pub invariant-loop-key : goal.invariant-loop-key
invariant-loop-key l = record {
  board : l.board ≡ l.initial.board;
  left : least_where (differs_at (spec.version_there (running l.at.job.now l.at.i).state l.namespace l.range) (spec.version_read l.range)) None l.keys
      ≡ least_where (differs_at (spec.version_there (running l.at.job.now l.at.i).state l.namespace l.range) (spec.version_read l.range)) l.least (drop l.key-index l.keys);
}
