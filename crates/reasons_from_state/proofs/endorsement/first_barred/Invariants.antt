use Rattle.std.proofs.Common.{◌≡◌, not, find, drop}
use Rattle.rules.specs.Fold.{running}
use Rattle.rules.specs.Endorsement as rule
use Rattle.reasons_from_state.proofs.endorsement.first_barred.Given as goal

abbrev pub invariant-loop-key : goal.invariant-loop-key
invariant-loop-key l = find (λ k. not (rule.may_write l.at.job.now.definitions l.at.job.now.state (running l.at.job.now l.at.i).touched l.signers k)) l.keys ≡ find (λ k. not (rule.may_write l.at.job.now.definitions l.at.job.now.state (running l.at.job.now l.at.i).touched l.signers k)) (drop l.key-index l.keys)
