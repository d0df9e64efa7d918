use Rattle.std.proofs.Common.{◌≡◌, ◌≤◌, length, take}
use Rattle.policy_eval.specs.Over.{signers_over}
use Rattle.policy_eval.proofs.signing.signers_from.Given as goal

abbrev pub invariant-loop-endorsement : goal.invariant-loop-endorsement
invariant-loop-endorsement g l = record {
  so_far : l.identities.items ≡ signers_over (g.V.Verify.accepts l.verifier) l.fn.message.items (take l.endorsement-index l.endorsements);
  few : length l.identities.items ≤ l.endorsement-index;
  front : take l.body_len l.message.items ≡ l.fn.message.items;
  long : l.body_len ≤ length l.message.items;
}
