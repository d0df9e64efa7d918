-- Candidates and blocks of the code.
use Rattle.std.specs.Prelude.{ℕ, List, [], Option, ◌==◌, length, map}
use Rattle.transaction.specs.declared.item.Item.{Item}
use Rattle.transaction.specs.Items.{item_of}
use Rattle.policy_eval.specs.Accepts.{Accepts}
use Rattle.channel.specs.Configuration.{Configuration}
use Rattle.plain.specs.declared.candidate.Candidate.{Candidate}
use Rattle.plain.specs.declared.next_block.NextBlock.{NextBlock}
use Rattle.plain.specs.declared.candidate.Candidate.TheVariants.{Flagged, Open, Updates}
use Rattle.policy.specs.Tree.{Tree}
use Rattle.policy.specs.Policies.{Policies}
use Rattle.rules.specs.Candidate as candidate
use Rattle.rules.specs.Job.{Job}
use Rattle.rules.specs.State.{State}
use Rattle.plain.specs.Held.{Held}

abbrev pub seen : Candidate → candidate.Candidate
seen (Flagged flag) = candidate.flagged flag
seen (Open open_tx) = candidate.opened open_tx.tx open_tx.signers
seen (Updates open_update) = candidate.updates open_update.update open_update.signers

-- the job of these candidates over a state
abbrev pub job_over : Option Tree → Policies → ℕ → State → List Candidate → Job
job_over admin definitions number before candidates = record { number = number; state = before; definitions = definitions; admin = admin; candidates = map seen candidates }

-- the channel with the definitions that are held
abbrev pub channel_with : Configuration → Held → Configuration
channel_with channel held = record { name = channel.name; definitions = held.definitions; admin = channel.admin }

-- `Commit.job_of`, of what a world holds
abbrev pub next_job : Configuration → Accepts → ℕ → Held → List (Option Item) → Job
next_job channel accepts number held items = record {
  number = number;
  state = held.state;
  definitions = held.definitions;
  admin = channel.admin;
  candidates = candidate.candidates_from (channel_with channel held) accepts (length items == 1) held.first_uses [] items;
}

-- the items of the next block
abbrev pub items_of : NextBlock → List (Option Item)
items_of block = map (item_of block.version) block.txs.now
