-- The world after a linked block.
use Rattle.std.specs.Prelude.{ℕ, suc, List, [], ◌∷◌, ◌++◌, length, map, Option, option_to_list}
use Rattle.block.specs.first_version.Grammar.{Block}
use Rattle.transaction.specs.declared.transaction.Tx.{Tx}
use Rattle.transaction.specs.Decoded.{tx_of}
use Rattle.header_hash.specs.Hashes.{header_hash_of}
use Rattle.policy_eval.specs.Accepts.{Accepts}
use Rattle.first_version.specs.Configuration.{Configuration}
use Rattle.first_version.specs.Answer.{CommittedBlock}
use Rattle.rules.specs.declared.first_use.FirstUse.{FirstUse}
use Rattle.first_version.specs.Candidate.{used_id, candidates_from}
use Rattle.first_version.specs.Job.{Job}
use Rattle.first_version.specs.Fold.{flag, flags, final_state, entries_to}
use Rattle.rules.specs.History.{with_entries}
use Rattle.rules.specs.FirstUses.{with_uses}
use Rattle.first_version.specs.World.{World, height_of}

-- the transactions of a block, none if the bytes encode none
abbrev pub txs_of : Block → List (Option Tx)
txs_of b = map tx_of b.txs

-- the candidates of these transactions over a world
abbrev pub job_of : Configuration → Accepts → World → List (Option Tx) → Job
job_of channel accepts w txs = record {
  number = height_of w;
  state = w.state;
  definitions = channel.definitions;
  candidates = candidates_from channel accepts w.first_uses [] txs;
}

-- the uses of ids from place i on; of an id that was used already, the use doesn't count (`with_uses`)
abbrev pub uses_from : Job → ℕ → List (Option (List ℕ)) → List (List ℕ × FirstUse)
uses_from j i [] = []
uses_from j i (id ∷ ids) =
    map (λ x. (x, record { block = j.number; place = i; flag = flag j i })) (option_to_list id) ++ uses_from j (suc i) ids

-- the block as it is kept
abbrev pub committed_of : List ℕ → Block → Job → CommittedBlock
committed_of bytes b j = record { bytes = bytes; header_hash = header_hash_of b.header; flags = flags j }

abbrev pub committed : Configuration → Accepts → World → List (Option Tx) → CommittedBlock → World
committed channel accepts w txs kept =
    let j = job_of channel accepts w txs in
    record {
      state = final_state j;
      history = with_entries w.history (entries_to j (length j.candidates));
      first_uses = with_uses w.first_uses (uses_from j 0 (map (used_id channel accepts) txs));
      blocks = w.blocks ++ kept ∷ [];
    }

-- the world after a linked block, which bytes encode
abbrev pub world_after : Configuration → Accepts → World → List ℕ → Block → World
world_after channel accepts w bytes b =
    committed channel accepts w (txs_of b) (committed_of bytes b (job_of channel accepts w (txs_of b)))
