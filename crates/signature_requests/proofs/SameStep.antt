-- Verifiers that agree on the requests of a block make the same step of it.
use Rattle.std.proofs.Common.{◌≡◌, ℕ, List, [], ◌∷◌, ◌++◌, length, Option, Result, Ok, Err, ◌∙◌}
use Rattle.block.specs.declared.block.Block.{Block}
use Rattle.header_hash.specs.Hashes.{header_hash_of}
use Rattle.policy_eval.specs.Accepts.{Accepts}
use Rattle.channel.specs.Configuration.{Configuration}
use Rattle.rules.specs.declared.answer.Accepted.{Accepted}
use Rattle.rules.specs.declared.answer.Refused.{Refused}
use Rattle.rules.specs.History.{with_entries}
use Rattle.rules.specs.FirstUses.{with_uses}
use Rattle.rules.specs.Definitions.{with_definitions}
use Rattle.rules.specs.Job.{Job}
use Rattle.rules.specs.Fold.{flags, final_state, entries_to, definitions_to}
use Rattle.rules.specs.World.{World, last_commit_hash}
use Rattle.rules.specs.Commit.{items_of, uses_from, commit_hash_in, committed_of, world_after}
use Rattle.rules.specs.Step.{accepted_of, Step}
use Rattle.signature_requests.specs.Requests.{block_requests}
use Rattle.signature_requests.specs.Agreement.{AgreeOn, AgreeOnBytes}
use Rattle.signature_requests.proofs.Agreeing.{ids-same, job-same}

-- what is answered to a linked block, by its job
abbrev answer_by : World → Block → Job → Accepted
answer_by w b j = record { number = b.header.number; header_hash = header_hash_of b.header; commit_hash = commit_hash_in (last_commit_hash w) b.version j; flags = flags j }

-- the world after it, by its job and the ids that its items use
abbrev world_by : World → List ℕ → Block → Job → List (Option (List ℕ)) → World
world_by w bytes b j ids = record {
  state = final_state j;
  history = with_entries w.history (entries_to j (length j.candidates));
  first_uses = with_uses w.first_uses (uses_from j 0 ids);
  definitions = with_definitions w.definitions (definitions_to j (length j.candidates));
  blocks = w.blocks ++ committed_of bytes (last_commit_hash w) b j ∷ [];
}

module _ (channel : Configuration) (accepts others : Accepts) (w : World) (b : Block) (agree : AgreeOn accepts others (block_requests b)) where
  answer-same : accepted_of channel accepts w b ≡ accepted_of channel others w b
  answer-same = let job = job-same accepts others channel w (items_of b) agree in λ i. answer_by w b (job i)

  world-same : (bytes : List ℕ) → world_after channel accepts w bytes b ≡ world_after channel others w bytes b
  world-same bytes =
      let job = job-same accepts others channel w (items_of b) agree in
      let ids = ids-same accepts others channel (items_of b) agree in
      λ i. world_by w bytes b (job i) (ids i)

pub step-same : (channel : Configuration) (accepts others : Accepts) (old new : World) (bytes : List ℕ) (answer : Result Accepted Refused)
    → AgreeOnBytes accepts others bytes → Step channel accepts old bytes answer new → Step channel others old bytes answer new
step-same channel accepts others old new bytes (Ok accepted) agree s =
    let on = agree s.0 s.1 in
    (s.0, s.1, s.2, s.3 ∙ answer-same channel accepts others old s.0 on, s.4 ∙ world-same channel accepts others old s.0 on bytes)
step-same channel accepts others old new bytes (Err refused) agree s = s
