-- What taking one candidate makes of what runs along in the code. No public contract cites this.
use Rattle.std.specs.Prelude.{◌≡◌, ℕ, [], ◌++◌, length, Bool, if◌then◌else◌, Option, map}
use Rattle.std.specs.List.{range_with_len}
use Rattle.transaction.specs.declared.transaction.Version.{Version}
use Rattle.policy.specs.Tree.{Tree}
use Rattle.policy.specs.Policies.{Policies}
use Rattle.rules.specs.declared.flag.Flag.{Flag}
use Rattle.rules.specs.Flags.{is_valid}
use Rattle.rules.specs.State.{State, with_changes}
use Rattle.rules.specs.Delta.{changes_in, entries_in, definitions_in}
use Rattle.rules.specs.Candidate.{Candidate}
use Rattle.rules.specs.Job.{Job, touched_by, changes_by, entries_by, definitions_by, endorsement_by, reads_by, flag_by}
use Rattle.rules.specs.Fold.{running, flag, flags, changes_to, entries_to, definitions_to}
use Rattle.plain.specs.declared.fold.Running.{Running}
use Rattle.plain.specs.Keys.{keys_of}

-- it has what the candidates before i give
pub record IsRunning (j : Job) (i : ℕ) (r : Running) : Type 0 where
  pub touched : keys_of r.touched.items ≡ (running j i).touched
  pub changes : changes_in r.changes.items ≡ changes_to j i
  pub entries : entries_in r.entries.items ≡ entries_to j i
  pub definitions : definitions_in r.definitions.items ≡ definitions_to j i
  pub flags : r.flags.items ≡ map (flag j) (range_with_len 0 i)

-- what all candidates of a job give
pub record IsFolded (j : Job) (r : Running) : Type 0 where
  pub changes : changes_in r.changes.items ≡ changes_to j (length j.candidates)
  pub entries : entries_in r.entries.items ≡ entries_to j (length j.candidates)
  pub definitions : definitions_in r.definitions.items ≡ definitions_to j (length j.candidates)
  pub flags : r.flags.items ≡ flags j

-- ---- one candidate more, over the state before the block

abbrev pub state_in : State → Running → State
state_in before r = with_changes before (changes_in r.changes.items)

abbrev pub endorsement_in : Option Tree → Policies → State → Running → Candidate → Bool
endorsement_in admin definitions before r c = endorsement_by admin definitions before (keys_of r.touched.items) c

abbrev pub next_flag : Option Tree → Policies → State → Running → Candidate → Flag
next_flag admin definitions before r c = flag_by c (endorsement_in admin definitions before r c) (reads_by (state_in before r) c)

abbrev pub is_applied : Option Tree → Policies → State → Running → Candidate → Bool
is_applied admin definitions before r c = is_valid (next_flag admin definitions before r c)

-- its flag aside
pub record IsTaken (admin : Option Tree) (policies : Policies) (before : State) (v : Version) (c : Candidate) (old new : Running) : Type 0 where
  pub touched :
      keys_of new.touched.items
      ≡ (if endorsement_in admin policies before old c then keys_of old.touched.items ++ touched_by c else keys_of old.touched.items)
  pub changes :
      changes_in new.changes.items
      ≡ changes_in old.changes.items ++ (if is_applied admin policies before old c then changes_by v c (state_in before old) else [])
  pub entries :
      entries_in new.entries.items
      ≡ entries_in old.entries.items ++ (if is_applied admin policies before old c then entries_by v c else [])
  pub definitions :
      definitions_in new.definitions.items
      ≡ definitions_in old.definitions.items ++ (if is_applied admin policies before old c then definitions_by c else [])
