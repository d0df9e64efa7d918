-- The step of `rules` is the one that executes a block serially.
use Rattle.std.proofs.Common.{◌≡◌, ℕ, List, [], ◌∷◌, ◌++◌, Result, Ok, Err, sym, ◌∙◌}
use Rattle.block.specs.declared.block.Block.{Block}
use Rattle.channel.specs.Configuration.{Configuration}
use Rattle.header_hash.specs.Hashes.{header_hash_of, commit_hash_of}
use Rattle.policy_eval.specs.Accepts.{Accepts}
use Rattle.rules.specs.declared.answer.Accepted.{Accepted}
use Rattle.rules.specs.declared.answer.Refused.{Refused}
use Rattle.rules.specs.CommitBytes.{commit_bytes, commit_hash_before}
use Rattle.rules.specs.Commit.{items_of, world_after}
use Rattle.rules.specs.Step.{accepted_of, Step}
use Rattle.rules.specs.World.{World, height_of, last_commit_hash}
use Rattle.rules.specs.Chain.{Submission, Chain}
use Rattle.theorem.specs.Step.{answer_to, ledger_after, Takes, TakesAll}
use Rattle.theorem.proofs.AllPlaces.{all_serial}

module _ (channel : Configuration) (accepts : Accepts) where
  pub answer_same : (w : World) (b : Block) → accepted_of channel accepts w b ≡ answer_to channel accepts w b
  answer_same w b =
      let h = all_serial channel accepts w (items_of b) in
      λ k. record {
        number = b.header.number;
        header_hash = header_hash_of b.header;
        commit_hash = commit_hash_of (commit_hash_before (last_commit_hash w)) (commit_bytes (record { version = b.version; number = height_of w; flags = h.flags k; before = w.state; after = h.state k; definition = h.replaced k }));
        flags = h.flags k;
      }

  pub world_same : (w : World) (bytes : List ℕ) (b : Block) → world_after channel accepts w bytes b ≡ ledger_after channel accepts w bytes b
  world_same w bytes b =
      let h = all_serial channel accepts w (items_of b) in
      λ k. record {
        state = h.state k;
        history = h.history k;
        first_uses = h.first_uses k;
        definitions = h.policies k;
        blocks =
            w.blocks
            ++ record { bytes = bytes; header_hash = header_hash_of b.header; commit_hash = (answer_same w b k).commit_hash; version = b.version; flags = h.flags k }
            ∷ [];
      }

  pub step_there : (old new : World) (bytes : List ℕ) (answer : Result Accepted Refused) → Step channel accepts old bytes answer new → Takes channel accepts old bytes answer new
  step_there old new bytes (Ok accepted) s = (s.0, s.1, s.2, s.3 ∙ answer_same old s.0, s.4 ∙ world_same old bytes s.0)
  step_there old new bytes (Err refused) s = s

  pub step_back : (old new : World) (bytes : List ℕ) (answer : Result Accepted Refused) → Takes channel accepts old bytes answer new → Step channel accepts old bytes answer new
  step_back old new bytes (Ok accepted) t = (t.0, t.1, t.2, t.3 ∙ sym (answer_same old t.0), t.4 ∙ sym (world_same old bytes t.0))
  step_back old new bytes (Err refused) t = t

-- ---- chains

pub chain_there : (channel : Configuration) (old new : World) (submissions : List Submission) (answers : List (Result Accepted Refused))
    → Chain channel old submissions answers new → TakesAll channel old submissions answers new
chain_there channel old new [] [] c = c
chain_there channel old new (s ∷ submissions) (answer ∷ answers) c =
    (c.0, step_there channel s.accepts old c.0 s.bytes answer c.1, chain_there channel c.0 new submissions answers c.2)
chain_there channel old new [] (answer ∷ answers) c = absurd c
chain_there channel old new (s ∷ submissions) [] c = absurd c

pub chain_back : (channel : Configuration) (old new : World) (submissions : List Submission) (answers : List (Result Accepted Refused))
    → TakesAll channel old submissions answers new → Chain channel old submissions answers new
chain_back channel old new [] [] t = t
chain_back channel old new (s ∷ submissions) (answer ∷ answers) t =
    (t.0, step_back channel s.accepts old t.0 s.bytes answer t.1, chain_back channel t.0 new submissions answers t.2)
chain_back channel old new [] (answer ∷ answers) t = absurd t
chain_back channel old new (s ∷ submissions) [] t = absurd t
