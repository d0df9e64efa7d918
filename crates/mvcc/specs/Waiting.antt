-- What the read check waits for. No public contract cites it: at the top it is that the reads depend on the candidate.
use Rattle.std.specs.Prelude.{◌≡◌, ℕ, List, Bool, true, ◌&&◌, None}
use Rattle.std.specs.Str.{bytes_eq}
use Rattle.std.specs.List.{list_any}
use Rattle.transaction.specs.declared.transaction.Read.{Read}
use Rattle.transaction.specs.declared.transaction.Range.{Range}
use Rattle.transaction.specs.declared.transaction.NsSet.{NsSet}
use Rattle.rules.specs.State.{StateKey}
use Rattle.rules.specs.Ranges.{is_compared}
use Rattle.rules.specs.Job.{Job}
use Rattle.rules.specs.Depends.{VersionDepends, set_looks_at}
use Rattle.key_chains.specs.Known.{Known}

-- an earlier candidate that writes one of the keys that are looked at, and whose flag is unknown
pub record WaitsFor (j : Job) (known : Known) (i : ℕ) (looks : StateKey → Bool) (h : ℕ) : Type 0 where
  pub key : StateKey
  pub is_looked_at : looks key ≡ true
  pub depends : VersionDepends j key i h
  pub unknown : known.flag h ≡ None

-- the keys that are looked at by reads, by a range, by ranges, and in namespaces
abbrev pub reads_at : List ℕ → List Read → StateKey → Bool
reads_at namespace reads k = bytes_eq k.0 namespace && list_any (λ r. bytes_eq k.1 r.key) reads

abbrev pub range_at : List ℕ → Range → StateKey → Bool
range_at namespace r k = bytes_eq k.0 namespace && is_compared r k.1

abbrev pub ranges_at : List ℕ → List Range → StateKey → Bool
ranges_at namespace ranges k = bytes_eq k.0 namespace && list_any (λ r. is_compared r k.1) ranges

abbrev pub sets_at : List NsSet → StateKey → Bool
sets_at sets k = list_any (λ n. set_looks_at n k) sets
