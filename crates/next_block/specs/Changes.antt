-- What the candidates of a block change, part by part. A step between the definition of deltas and the code: no public
-- contract cites this.
use Rattle.std.specs.Prelude.{◌≡◌, ℕ, List, length, Option}
use Rattle.rules.specs.declared.committed.CommittedBlock.{CommittedBlock}
use Rattle.rules.specs.declared.delta.Delta.{Delta}
use Rattle.rules.specs.declared.delta.NewEntry.{NewEntry}
use Rattle.rules.specs.CommitBytes.{update_bytes}
use Rattle.rules.specs.State.{State, with_changes}
use Rattle.state_db.specs.Batch.{changed}
use Rattle.rules.specs.Commit.{uses_from}
use Rattle.rules.specs.Delta.{AreRealChanges, changes_in, entries_in, uses_in, definitions_in}
use Rattle.rules.specs.History.{History, with_entries}
use Rattle.rules.specs.Fold.{final_state, entries_to, definitions_to}
use Rattle.rules.specs.Job.{Job}
use Rattle.next_block.specs.declared.pending.Changed.{Changed}

-- these make of any history what those of the job make of it
abbrev pub AddEntriesOf : Job → List NewEntry → Type 0
AddEntriesOf j entries = (h : History) → with_entries h (entries_in entries) ≡ with_entries h (entries_to j (length j.candidates))

-- of the job of a block whose places use these ids, and which is kept so
pub record Changes (j : Job) (ids : List (Option (List ℕ))) (kept : CommittedBlock) (d : Delta) : Type 0 where
  pub state : with_changes j.state (changes_in d.changes) ≡ final_state j
  pub real : AreRealChanges j.state (changes_in d.changes)
  pub history : AddEntriesOf j d.entries
  pub uses : uses_in d.uses ≡ uses_from j 0 ids
  pub definitions : definitions_in d.definitions ≡ definitions_to j (length j.candidates)
  pub block : d.block ≡ kept

-- of the job of a block whose places use these ids
pub record IsChangedBy (j : Job) (ids : List (Option (List ℕ))) (c : Changed) : Type 0 where
  pub state : with_changes j.state (changes_in c.effects.changes.items) ≡ final_state j
  pub real : AreRealChanges j.state (changes_in c.effects.changes.items)
  pub history : AddEntriesOf j c.effects.entries.items
  pub uses : uses_in c.uses.items ≡ uses_from j 0 ids
  pub definitions : definitions_in c.effects.definitions.items ≡ definitions_to j (length j.candidates)
  pub batch : (s : State) → changed s c.batch ≡ with_changes s (changes_in c.effects.changes.items)
  pub update : c.update.items ≡ update_bytes j.state (final_state j)
