-- How many transactions a key made invalid.
use Rattle.std.specs.Prelude.{ℕ, ◌+◌, List, Bool, true, false, ◌&&◌}
use Rattle.std.specs.List.{count_by}
use Rattle.rules.specs.State.{StateKey, is_same_key}
use Rattle.conflicts.specs.declared.conflict.Conflict.{Conflict}
use Rattle.conflicts.specs.declared.key_counts.KeyCounts.{KeyCounts}
use Rattle.conflicts.specs.declared.kind.Kind.{Kind}
use Rattle.conflicts.specs.declared.kind.Kind.TheVariants.{StaleRead, Phantom, OwnPolicy, PolicyTouched}

abbrev pub is_same_kind : Kind → Kind → Bool
is_same_kind StaleRead StaleRead = true
is_same_kind Phantom Phantom = true
is_same_kind OwnPolicy OwnPolicy = true
is_same_kind PolicyTouched PolicyTouched = true
is_same_kind _ _ = false

-- whether it is the key's, of this kind
abbrev pub is_of : StateKey → Kind → Conflict → Bool
is_of k kind c = is_same_key c.key k && is_same_kind c.kind kind

-- whether it is the key's, and a transaction of the same block caused it
abbrev pub is_in_block : StateKey → Conflict → Bool
is_in_block k c = is_same_key c.key k && c.in_block

-- how many of these conflicts are the key's
abbrev pub counts_of : StateKey → List Conflict → KeyCounts
counts_of k conflicts = record {
  stale_reads = count_by (is_of k StaleRead) conflicts;
  phantoms = count_by (is_of k Phantom) conflicts;
  own_policy = count_by (is_of k OwnPolicy) conflicts;
  policy_touched = count_by (is_of k PolicyTouched) conflicts;
  in_block = count_by (is_in_block k) conflicts;
}

-- of all kinds
abbrev pub total_of : KeyCounts → ℕ
total_of n = n.stale_reads + n.phantoms + n.own_policy + n.policy_touched
