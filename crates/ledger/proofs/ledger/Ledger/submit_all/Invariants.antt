use Rattle.std.proofs.Common.{◌≡◌, ◌≤◌, length, take, vec_len, vec_capacity}
use Rattle.rules.specs.Chain.{Chain}
use Rattle.next_block.specs.Submissions.{submissions}
use Rattle.ledger.proofs.ledger.Ledger.submit_all.Given as goal

abbrev pub invariant-loop-bytes : goal.invariant-loop-bytes
invariant-loop-bytes g l = record {
  chain : Chain l.fn.self.channel l.fn.self.world (submissions (g.V.Verify.accepts l.verifier) (take l.bytes-index l.blocks)) l.answers.items l.self.world;
  channel : l.self.channel ≡ l.fn.self.channel;
  count : vec_len l.answers ≡ l.bytes-index;
  room : length l.blocks ≤ vec_capacity l.answers;
}
