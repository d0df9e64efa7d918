-- What the verdicts of a candidate depend on.
use Rattle.std.specs.Prelude.{◌≡◌, ℕ, ◌<◌, List, Bool, true, false, ◌&&◌, ◌||◌}
use Rattle.std.specs.Str.{bytes_eq}
use Rattle.std.specs.List.{list_any}
use Rattle.transaction.specs.declared.transaction.NsSet.{NsSet}
use Rattle.rules.specs.State.{StateKey, is_among}
use Rattle.rules.specs.Ranges.{is_compared}
use Rattle.rules.specs.Candidate.{Candidate, flagged, opened, updates}
use Rattle.rules.specs.Job.{Job, candidate_at, touched_by, operated_by}

abbrev pub shares_key : List StateKey → List StateKey → Bool
shares_key ks ls = list_any (λ k. is_among k ls) ks

-- the key is read, or lies in the compared part of a range
abbrev pub set_looks_at : NsSet → StateKey → Bool
set_looks_at n k = bytes_eq k.0 n.name && (list_any (λ r. bytes_eq k.1 r.key) n.reads || list_any (λ r. is_compared r k.1) n.ranges)

abbrev pub looks_at : Candidate → StateKey → Bool
looks_at (flagged flag) k = false
looks_at (opened tx signers) k = list_any (λ n. set_looks_at n k) tx.namespaces
looks_at (updates u signers) k = false

-- an earlier one writes the policy of a key that this one writes
abbrev pub EndorsementDepends : Job → ℕ → ℕ → Type 0
EndorsementDepends j i h = (h < i) × (shares_key (touched_by (candidate_at j h)) (operated_by (candidate_at j i)) ≡ true)

-- an earlier one writes a key that this one looks at
abbrev pub ReadsDepend : Job → ℕ → ℕ → Type 0
ReadsDepend j i h = (h < i) × (list_any (looks_at (candidate_at j i)) (operated_by (candidate_at j h)) ≡ true)

-- an earlier one writes the key
abbrev pub VersionDepends : Job → StateKey → ℕ → ℕ → Type 0
VersionDepends j k i h = (h < i) × (is_among k (operated_by (candidate_at j h)) ≡ true)
