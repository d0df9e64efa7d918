-- The keys that made most transactions invalid.
use Rattle.std.specs.Prelude.{◌≡◌, ◌<◌, ℕ, List, map, take, true}
use Rattle.std.specs.declared.cmp.Ordering.{Ordering}
use Rattle.std.specs.Ordering.{nat_cmp, flip_args, then_cmp, on}
use Rattle.std.specs.List.{All, list_all}
use Rattle.std.specs.List.Sorted.{IsStrictlySortedBy}
use Rattle.rules.specs.State.{StateKey, key_cmp, is_among}
use Rattle.conflicts.specs.declared.conflict.Conflict.{Conflict}
use Rattle.conflicts.specs.declared.key_counts.KeyCounts.{KeyCounts}
use Rattle.conflicts.specs.KeyCounts.{counts_of, total_of}

-- a key with its counts
abbrev pub Line : Type 0
Line = StateKey × KeyCounts

-- most first; ties in the order of namespaces, and then of keys
abbrev pub line_cmp : Line → Line → Ordering
line_cmp = then_cmp (on (λ l. total_of l.1) (flip_args nat_cmp)) (on (λ l. l.0) key_cmp)

-- Each line has what its key made invalid, which is something; each key with a conflict has a line; and lines are in
-- order, so that none is listed twice.
pub record IsRanking (conflicts : List Conflict) (lines : List Line) : Type 0 where
  pub counts : All (λ l. (l.1 ≡ counts_of l.0 conflicts) × (0 < total_of l.1)) lines
  pub all : list_all (λ c. is_among c.key (map (λ l. l.0) lines)) conflicts ≡ true
  pub order : IsStrictlySortedBy line_cmp lines

-- the first n lines of the ranking
abbrev pub AreFirst : List Conflict → ℕ → List Line → Type 0
AreFirst conflicts n lines = (ranking : List Line) × IsRanking conflicts ranking × (lines ≡ take n ranking)
