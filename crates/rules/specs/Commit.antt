-- What a linked block makes of a world.
use Rattle.std.specs.Prelude.{ℕ, suc, List, [], ◌∷◌, ◌++◌, ◌==◌, length, map, Option, option_to_list, slice_get}
use Rattle.block.specs.declared.block.Block.{Block}
use Rattle.transaction.specs.declared.block_version.BlockVersion.{BlockVersion}
use Rattle.transaction.specs.declared.item.Item.{Item}
use Rattle.transaction.specs.Items.{item_of}
use Rattle.header_hash.specs.Hashes.{header_hash_of, commit_hash_of}
use Rattle.policy_eval.specs.Accepts.{Accepts}
use Rattle.channel.specs.Configuration.{Configuration}
use Rattle.rules.specs.declared.committed.CommittedBlock.{CommittedBlock}
use Rattle.rules.specs.declared.first_use.FirstUse.{FirstUse}
use Rattle.rules.specs.Candidate.{used_id, candidates_from}
use Rattle.rules.specs.Job.{Job}
use Rattle.rules.specs.Fold.{flag, flags, final_state, entries_to, definitions_to}
use Rattle.rules.specs.History.{with_entries}
use Rattle.rules.specs.FirstUses.{with_uses}
use Rattle.rules.specs.Definitions.{with_definitions}
use Rattle.rules.specs.CommitBytes.{BlockCommit, commit_bytes, commit_hash_before}
use Rattle.rules.specs.World.{World, height_of, last_commit_hash}

-- the items of a block, none where the bytes spell none
abbrev pub items_of : Block → List (Option Item)
items_of b = map (item_of b.version) b.txs

-- the channel with the definitions that a world has
abbrev pub channel_in : Configuration → World → Configuration
channel_in channel w = record { name = channel.name; definitions = w.definitions; admin = channel.admin }

-- the candidates of these items, which are all of a block, over a world
abbrev pub job_of : Configuration → Accepts → World → List (Option Item) → Job
job_of channel accepts w items = record {
  number = height_of w;
  state = w.state;
  definitions = w.definitions;
  admin = channel.admin;
  candidates = candidates_from (channel_in channel w) accepts (length items == 1) w.first_uses [] items;
}

-- the uses of ids from place i on; of an id that was used already, the use doesn't count (`with_uses`)
abbrev pub uses_from : Job → ℕ → List (Option (List ℕ)) → List (List ℕ × FirstUse)
uses_from j i [] = []
uses_from j i (id ∷ ids) =
    map (λ x. (x, record { block = j.number; place = i; flag = flag j i })) (option_to_list id) ++ uses_from j (suc i) ids

-- what the block of a job commits; one definition at most is there
abbrev pub commit_by : BlockVersion → Job → BlockCommit
commit_by version j = record {
  version = version;
  number = j.number;
  flags = flags j;
  before = j.state;
  after = final_state j;
  definition = slice_get (definitions_to j (length j.candidates)) 0;
}

-- the commit hash of that block, behind one with this commit hash, or as the first one
abbrev pub commit_hash_in : Option (List ℕ) → BlockVersion → Job → List ℕ
commit_hash_in previous version j = commit_hash_of (commit_hash_before previous) (commit_bytes (commit_by version j))

-- the block as it is kept, behind one with this commit hash
abbrev pub committed_of : List ℕ → Option (List ℕ) → Block → Job → CommittedBlock
committed_of bytes previous b j = record {
  bytes = bytes;
  header_hash = header_hash_of b.header;
  commit_hash = commit_hash_in previous b.version j;
  version = b.version;
  flags = flags j;
}

abbrev pub committed : Configuration → Accepts → World → List (Option Item) → CommittedBlock → World
committed channel accepts w items kept =
    let j = job_of channel accepts w items in
    record {
      state = final_state j;
      history = with_entries w.history (entries_to j (length j.candidates));
      first_uses = with_uses w.first_uses (uses_from j 0 (map (used_id channel accepts) items));
      definitions = with_definitions w.definitions (definitions_to j (length j.candidates));
      blocks = w.blocks ++ kept ∷ [];
    }

-- the world after a linked block, which bytes spell
abbrev pub world_after : Configuration → Accepts → World → List ℕ → Block → World
world_after channel accepts w bytes b =
    committed channel accepts w (items_of b) (committed_of bytes (last_commit_hash w) b (job_of channel accepts w (items_of b)))
