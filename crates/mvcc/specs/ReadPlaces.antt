-- Where the reads of a namespace stand among all that a candidate reads. No public contract cites it.
use Rattle.std.specs.Prelude.{◌≡◌, ℕ, ◌+◌, ◌<◌, ◌^◌, List, length, map, Some, slice_get}
use Rattle.transaction.specs.declared.transaction.Read.{Read}
use Rattle.transaction.specs.declared.transaction.NsSet.{NsSet}
use Rattle.rules.specs.State.{StateKey}

-- the keys that are read in a namespace
abbrev pub keys_read : NsSet → List StateKey
keys_read n = map (λ r. (n.name, r.key)) n.reads

-- these reads are the keys from this place on, of as many as can be counted
pub record AreReadsFrom (keys : List StateKey) (first : ℕ) (namespace : List ℕ) (reads : List Read) : Type 0 where
  pub countable : length keys < 2 ^ 64
  pub each : (n : ℕ) (r : Read) → slice_get reads n ≡ Some r → slice_get keys (first + n) ≡ Some (namespace, r.key)
