-- Which ids of a block are used already.
use Rattle.std.specs.Prelude.{ℕ, List, [], ◌∷◌, ◌++◌, Bool, Option, option_to_list}
use Rattle.rules.specs.FirstUses.{FirstUses}
use Rattle.rules.specs.Candidate.{is_used}

-- for each place of a block whether its id is used, in an accepted block or at an earlier place; earlier has the ids of the
-- places before these
abbrev pub marks : FirstUses → List (List ℕ) → List (Option (List ℕ)) → List Bool
marks uses earlier [] = []
marks uses earlier (id ∷ ids) = is_used uses earlier id ∷ marks uses (earlier ++ option_to_list id) ids
