-- What is found in reads and ranges. No public contract cites this.
use Rattle.std.specs.Prelude.{◌≡◌, ◌⊎◌, ℕ, List, [], ◌∷◌, Option, Some, None, IsSome, find, not, option_map}
use Rattle.transaction.specs.declared.transaction.Range.{Range}
use Rattle.transaction.specs.declared.transaction.NsSet.{NsSet}
use Rattle.rules.specs.Reads.{read_holds}
use Rattle.rules.specs.Job.{Job}
use Rattle.rules.specs.Fold.{running}
use Rattle.reasons.specs.declared.stale_read.StaleRead.{StaleRead}
use Rattle.reasons.specs.Reads.{stale_read}
use Rattle.reasons.specs.declared.phantom_key.PhantomKey.{PhantomKey}
use Rattle.reasons.specs.Ranges.{version_there, version_read, IsFirstDifference, phantom_key}

-- the first read of a namespace that doesn't hold
abbrev pub stale_in : Job → ℕ → NsSet → Option StaleRead
stale_in j i n = option_map (stale_read j i n.name) (find (λ y. not (read_holds (running j i).state n.name y)) n.reads)

-- what is found in the first item in which something is found
abbrev pub IsFoundFirst : {A B : Type 0} → (A → Option B → Type 0) → List A → Option B → Type 0
IsFoundFirst Found [] x = x ≡ None
IsFoundFirst Found (a ∷ rest) x = (Found a x × IsSome x) ⊎ (Found a None × IsFoundFirst Found rest x)

-- a range has its first key that differs, or nothing where none does
abbrev pub IsFoundInRange : Job → ℕ → List ℕ → Range → Option PhantomKey → Type 0
IsFoundInRange j i namespace r None = (key : List ℕ) → version_there (running j i).state namespace r key ≡ version_read r key
IsFoundInRange j i namespace r (Some x) =
    (key : List ℕ) × IsFirstDifference (version_there (running j i).state namespace r) (version_read r) key × (x ≡ phantom_key j i namespace r key)

abbrev pub IsFoundInSet : Job → ℕ → NsSet → Option PhantomKey → Type 0
IsFoundInSet j i n x = IsFoundFirst (IsFoundInRange j i n.name) n.ranges x

abbrev pub IsFoundInSets : Job → ℕ → List NsSet → Option PhantomKey → Type 0
IsFoundInSets j i sets x = IsFoundFirst (IsFoundInSet j i) sets x
