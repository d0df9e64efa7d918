use Rattle.std.proofs.Common.{◌≡◌, ℕ, map, length, Some}
use Rattle.std.specs.Prelude.{slice_get}
use Rattle.transaction.specs.Items.{item_of}
use Rattle.policy_eval.specs.Accepts.{Accepts}
use Rattle.rules.specs.Candidate.{used_id}
use Rattle.rules.specs.Commit.{job_of}
use Rattle.reasons.specs.declared.reason.Reason.{Reason}
use Rattle.reasons.specs.Reason.{IsReason}
use Rattle.ledger.proofs.explaining.all_reasons.Given as goal

abbrev pub invariant-loop-i : goal.invariant-loop-i
invariant-loop-i l = record {
  board : l.board ≡ l.initial.board;
  count : length l.reasons.items ≡ l.i;
  each : (accepts : Accepts) → l.grounds.job.now ≡ job_of l.grounds.channel.now accepts l.grounds.world.now (map (item_of l.grounds.version) l.grounds.txs.now) → l.grounds.ids.now ≡ map (used_id l.grounds.channel.now accepts) (map (item_of l.grounds.version) l.grounds.txs.now)
      → (n : ℕ) (r : Reason) → slice_get l.reasons.items n ≡ Some r → IsReason l.grounds.channel.now accepts l.grounds.world.now (map (item_of l.grounds.version) l.grounds.txs.now) n r;
}
