-- Why the ranges of a candidate don't hold: the first that doesn't, and in it the first key that differs.
use Rattle.std.specs.Prelude.{◌≡◌, ◌≢◌, ℕ, List, not, find, if◌then◌else◌, Option, Some, None}
use Rattle.std.specs.FinMap as map
use Rattle.std.specs.declared.cmp.Ordering.TheVariants.{Less}
use Rattle.transaction.specs.declared.transaction.Range.{Range}
use Rattle.transaction.specs.declared.transaction.Version.{Version}
use Rattle.transaction.specs.declared.transaction.NsSet.{NsSet}
use Rattle.transaction.specs.declared.transaction.Tx.{Tx}
use Rattle.values.specs.Order.{bytes_cmp}
use Rattle.rules.specs.State.{State, version_in}
use Rattle.rules.specs.Ranges.{is_compared, results_of, range_holds}
use Rattle.rules.specs.Job.{Job}
use Rattle.rules.specs.Fold.{running}
use Rattle.reasons.specs.declared.phantom_key.PhantomKey.{PhantomKey}
use Rattle.reasons.specs.Form.{range_in}
use Rattle.reasons.specs.First.{last_below}
use Rattle.reasons.specs.Reads.{first_faulty, writes_row}

-- the version that a key of the compared part has, and the one that the query found there
abbrev pub version_there : State → List ℕ → Range → List ℕ → Option Version
version_there s namespace r key = if is_compared r key then version_in s (namespace, key) else None

abbrev pub version_read : Range → List ℕ → Option Version
version_read r key = map.find bytes_cmp key (results_of r)

-- the least key, by the order of bytes, where the two differ
pub record IsFirstDifference (there read : List ℕ → Option Version) (key : List ℕ) : Type 0 where
  pub differs : there key ≢ read key
  pub same_before : (k : List ℕ) → bytes_cmp k key ≡ Less → there k ≡ read k

abbrev pub phantom_key : Job → ℕ → List ℕ → Range → List ℕ → PhantomKey
phantom_key j i namespace r key = record {
  range = range_in namespace r;
  exhausted = r.exhausted;
  key = key;
  read = version_read r key;
  there = version_there (running j i).state namespace r key;
  writer = last_below (writes_row j (namespace, key)) i;
}

-- of the first namespace with a fault, and in it of the first range that doesn't hold, the first key that differs
abbrev pub IsPhantomKey : Job → ℕ → Tx → PhantomKey → Type 0
IsPhantomKey j i tx x =
    (n : NsSet) × (r : Range) × (key : List ℕ) × (first_faulty (running j i).state tx ≡ Some n)
    × (find (λ y. not (range_holds (running j i).state n.name y)) n.ranges ≡ Some r)
    × IsFirstDifference (version_there (running j i).state n.name r) (version_read r) key × (x ≡ phantom_key j i n.name r key)
