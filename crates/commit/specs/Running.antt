-- A committer, by what it has published, and what it makes of strings of bytes. No public contract cites this.
use Rattle.std.specs.Prelude.{◌≡◌, ℕ, Bool, List, Result}
use Rattle.channel.specs.Configuration.{Configuration}
use Rattle.policy_eval.specs.Accepts.{Accepts}
use Rattle.rules.specs.Names.{HasNamesOf}
use Rattle.rules.specs.World.{empty_world}
use Rattle.query.specs.declared.receipt.Receipt.{Receipt}
use Rattle.query.specs.Published.{Publishing, published_world}
use Rattle.commit.specs.declared.not_committed.NotCommitted.{NotCommitted}
use Rattle.commit.specs.Committing.{Committing, Submits, Runs}
use Rattle.commit.specs.Telling.{Steps, RunsTelling}

-- it was opened with the definitions of this channel, and the same chaincodes have a policy now
pub record BelongsTo (channel : Configuration) (p : Publishing) : Type 0 where
  pub base : p.base ≡ empty_world channel.definitions
  pub names : HasNamesOf channel (published_world p)

-- the committer of a channel, by what it publishes to the handles of its book
abbrev pub committing : Configuration → Publishing → Committing
committing channel p = record { channel = channel; book = p.book; list = p.list; stopped = p.failed }

abbrev pub Answer : Type 0
Answer = Result Receipt NotCommitted

-- what it makes of one string of bytes, by what it publishes
abbrev pub SubmitsTo : Configuration → Accepts → Publishing → List ℕ → Answer → Publishing → Type 0
SubmitsTo channel accepts old bytes answer new = Submits accepts (committing channel old) bytes answer (committing channel new)

-- and of one after the other
abbrev pub RunsTo : Configuration → Accepts → Publishing → List (List ℕ) → List Answer → Publishing → Type 0
RunsTo channel accepts old blocks answers new = Runs accepts (committing channel old) blocks answers (committing channel new)

-- what it makes of all of these, or up to the one at which a function ended the run
abbrev pub TellsTo : {F : Type 0} → Steps F → Configuration → Accepts → Publishing → List (List ℕ) → F → Bool → Publishing → F → Type 0
TellsTo step channel accepts old blocks f all new f' = RunsTelling step accepts (committing channel old) blocks f all (committing channel new) f'
