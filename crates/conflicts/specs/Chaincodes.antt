-- The chaincodes whose own policies made transactions invalid, each with the principal that was missing most in it.
use Rattle.std.specs.Prelude.{ℕ, List, [], ◌∷◌, ◌++◌, map, Bool, if◌then◌else◌}
use Rattle.std.specs.declared.cmp.Ordering.{Ordering}
use Rattle.std.specs.Ordering.{nat_cmp, flip_args, then_cmp, on}
use Rattle.std.specs.List.{count_by, list_any}
use Rattle.std.specs.List.Sorted.{IsPermutation, IsSorted}
use Rattle.std.specs.Str.{bytes_eq}
use Rattle.values.specs.Order.{bytes_cmp}
use Rattle.rules.specs.State.{StateKey}
use Rattle.conflicts.specs.declared.conflict.Conflict.{Conflict}
use Rattle.conflicts.specs.declared.chaincode_line.ChaincodeLine.{ChaincodeLine}
use Rattle.conflicts.specs.Laws.{total_where}
use Rattle.conflicts.specs.Ranking.{Line, IsRanking}

abbrev pub is_in : List ℕ → StateKey → Bool
is_in chaincode k = bytes_eq k.0 chaincode

-- the line, if none of those before it is of the same chaincode
abbrev pub if_first : List Line → Line → List Line
if_first before l = if list_any (λ b. is_in l.0.0 b.0) before then [] else l ∷ []

-- the first line of each chaincode, after these
abbrev pub firsts : List Line → List Line → List Line
firsts before [] = []
firsts before (l ∷ ls) = if_first before l ++ firsts (before ++ l ∷ []) ls

-- with all that its chaincode's own policy made invalid
abbrev pub chaincode_line : List Conflict → Line → ChaincodeLine
chaincode_line lacks l = record { transactions = count_by (λ c. is_in l.0.0 c.key) lacks; most_missing = l }

-- most first; ties in the order of names
abbrev pub chaincode_cmp : ChaincodeLine → ChaincodeLine → Ordering
chaincode_cmp = then_cmp (on (λ l. l.transactions) (flip_args nat_cmp)) (on (λ l. l.most_missing.0.0) bytes_cmp)

-- The first line of each chaincode in the ranking has the principal that is missing most in it, of several the first.
-- The chaincodes have an order of their own.
pub record AreChaincodes (lacks : List Conflict) (lines : List ChaincodeLine) : Type 0 where
  pub ranking : List Line
  pub ranked : IsRanking lacks ranking
  pub each : IsPermutation (map (chaincode_line lacks) (firsts [] ranking)) lines
  pub order : IsSorted chaincode_cmp lines

-- ---- a step between this and the code

-- counted by the lines themselves
abbrev pub line_in : List Line → Line → ChaincodeLine
line_in lines l = record { transactions = total_where (is_in l.0.0) lines; most_missing = l }
