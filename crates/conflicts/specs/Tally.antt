-- What was counted of the transactions of a chain.
use Rattle.std.specs.Prelude.{◌≡◌, ◌≤◌, ◌+◌, ℕ, nat_lt, List, [], ◌∷◌, Bool, unwrap_or, is_some, length, slice_index_or, if◌then◌else◌}
use Rattle.std.specs.BTreeMap.{is_at}
use Rattle.std.specs.Map.{lookup}
use Rattle.rules.specs.declared.flag.Flag.{Flag}
use Rattle.rules.specs.Flags.{number_of}
use Rattle.rules.specs.State.{StateKey, key_cmp}
use Rattle.reasons.specs.declared.reason.Reason.{Reason}
use Rattle.conflicts.specs.declared.conflict.Conflict.{Conflict}
use Rattle.conflicts.specs.declared.conflict.Found.{Found}
use Rattle.conflicts.specs.declared.key_counts.KeyCounts.{KeyCounts}
use Rattle.conflicts.specs.declared.kind.Kind.{Kind}
use Rattle.conflicts.specs.declared.kind.Kind.TheVariants.{StaleRead, Phantom, OwnPolicy, PolicyTouched}
use Rattle.conflicts.specs.declared.lack.FoundLack.{FoundLack}
use Rattle.conflicts.specs.Conflict.{conflicts_of}
use Rattle.conflicts.specs.Lack.{lack, lacks_of}
use Rattle.conflicts.specs.KeyCounts.{counts_of, total_of, is_same_kind}
use Rattle.conflicts.specs.FlagCounts.{with_flag}
use Rattle.conflicts.specs.Ranking.{Line}

pub record Tally : Type 0 where
  -- how many transactions
  pub total : ℕ
  -- how many have the flag of each number
  pub flags : List ℕ
  -- what each key has, by the keys' order; one without conflicts may have a line of none
  pub keys : List Line
  -- and each principal that is missing, instead of a key of the chaincode
  pub lacks : List Line

abbrev pub no_counts : KeyCounts
no_counts = record { stale_reads = 0; phantoms = 0; own_policy = 0; policy_touched = 0; in_block = 0 }

-- what a key has in these lines
abbrev pub counts_in : List Line → StateKey → KeyCounts
counts_in lines k = unwrap_or (lookup (is_at (key_cmp k)) lines) no_counts

-- each key has what it made invalid
abbrev pub CountsKeys : List Conflict → List Line → Type 0
CountsKeys conflicts lines = (k : StateKey) → counts_in lines k ≡ counts_of k conflicts

-- each flag has as many as transactions have it
abbrev pub CountsFlags : List Reason → List ℕ → Type 0
CountsFlags reasons counts = (flag : Flag) → slice_index_or counts (number_of flag) 0 ≡ with_flag flag reasons

-- it counts the transactions that have these reasons, and no others
pub record Counts (reasons : List Reason) (t : Tally) : Type 0 where
  pub total : t.total ≡ length reasons
  pub flags : CountsFlags reasons t.flags
  pub keys : CountsKeys (conflicts_of reasons) t.keys
  pub lacks : CountsKeys (lacks_of reasons) t.lacks

-- ---- steps between the definitions and the code

-- one conflict more
abbrev pub with_conflict : Kind → Bool → KeyCounts → KeyCounts
with_conflict kind in_block n = record {
  stale_reads = n.stale_reads + (if is_same_kind kind StaleRead then 1 else 0);
  phantoms = n.phantoms + (if is_same_kind kind Phantom then 1 else 0);
  own_policy = n.own_policy + (if is_same_kind kind OwnPolicy then 1 else 0);
  policy_touched = n.policy_touched + (if is_same_kind kind PolicyTouched then 1 else 0);
  in_block = n.in_block + (if in_block then 1 else 0);
}

-- a conflict whose key is borrowed
abbrev pub found_conflict : Found → Conflict
found_conflict f = record { key = (f.namespace, f.key); kind = f.kind; in_block = f.in_block }

-- a missing endorsement that is borrowed
abbrev pub found_lack : FoundLack → Conflict
found_lack f = lack f.chaincode f.missing.now

-- whether a key has a line
abbrev pub has_line : List Line → StateKey → Bool
has_line lines k = is_some (lookup (is_at (key_cmp k)) lines)

-- no key has more conflicts than n
abbrev pub IsWithin : ℕ → List Line → Type 0
IsWithin n lines = (k : StateKey) → (total_of (counts_in lines k) ≤ n) × ((counts_in lines k).in_block ≤ n)

-- no flag has more than n
abbrev pub AreWithin : ℕ → List ℕ → Type 0
AreWithin n counts = (i : ℕ) → slice_index_or counts i 0 ≤ n

-- a line of a report: its key has a conflict
abbrev pub is_line : Line → Bool
is_line l = nat_lt 0 (total_of l.1)

abbrev pub line_to_list : Line → List Line
line_to_list l = if is_line l then l ∷ [] else []
