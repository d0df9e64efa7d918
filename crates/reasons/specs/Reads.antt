-- Why the reads of a candidate don't hold: the first that doesn't.
use Rattle.std.specs.Prelude.{◌≡◌, ℕ, List, Bool, true, false, not, ◌&&◌, ◌||◌, find, is_some, Option, Some}
use Rattle.std.specs.FinMap.{get}
use Rattle.transaction.specs.declared.transaction.Read.{Read}
use Rattle.transaction.specs.declared.transaction.NsSet.{NsSet}
use Rattle.transaction.specs.declared.transaction.Tx.{Tx}
use Rattle.rules.specs.declared.read_verdict.ReadVerdict.{ReadVerdict}
use Rattle.rules.specs.declared.read_verdict.ReadVerdict.TheVariants.{Good}
use Rattle.rules.specs.declared.row.Row.{Row}
use Rattle.rules.specs.Flags.{is_valid}
use Rattle.rules.specs.State.{StateKey, State, version_in}
use Rattle.rules.specs.Effect.{write_of, policy_write_of}
use Rattle.rules.specs.Reads.{read_holds, set_verdict}
use Rattle.rules.specs.Candidate.{Candidate, flagged, opened, updates}
use Rattle.rules.specs.Job.{Job, candidate_at}
use Rattle.rules.specs.Fold.{running, flag}
use Rattle.reasons.specs.declared.stale_read.StaleRead.{StaleRead}
use Rattle.reasons.specs.First.{last_below}

abbrev pub is_good : ReadVerdict → Bool
is_good Good = true
is_good _ = false

-- the first namespace with a read or a range that doesn't hold
abbrev pub first_faulty : State → Tx → Option NsSet
first_faulty s tx = find (λ n. not (is_good (set_verdict s n))) tx.namespaces

-- It writes or deletes the row of a key; a policy write alone writes the row that is there.
abbrev pub sets_row : Candidate → StateKey → Option Row → Bool
sets_row (flagged flag) k row = false
sets_row (updates u signers) k row = false
sets_row (opened tx signers) k row = is_some (write_of tx k) || (is_some (policy_write_of tx k) && is_some row)

-- candidate h is valid, and writes or deletes the row of the key
abbrev pub writes_row : Job → StateKey → ℕ → Bool
writes_row j k h = is_valid (flag j h) && sets_row (candidate_at j h) k (get (running j h).state k)

-- the read r in a namespace, over the state that runs along before candidate i
abbrev pub stale_read : Job → ℕ → List ℕ → Read → StaleRead
stale_read j i namespace r = record {
  namespace = namespace;
  key = r.key;
  read = r.version;
  there = version_in (running j i).state (namespace, r.key);
  writer = last_below (writes_row j (namespace, r.key)) i;
}

-- the first read that doesn't hold, of the first namespace with a fault
abbrev pub IsStaleRead : Job → ℕ → Tx → StaleRead → Type 0
IsStaleRead j i tx x =
    (n : NsSet) × (r : Read) × (first_faulty (running j i).state tx ≡ Some n)
    × (find (λ y. not (read_holds (running j i).state n.name y)) n.reads ≡ Some r) × (x ≡ stale_read j i n.name r)
