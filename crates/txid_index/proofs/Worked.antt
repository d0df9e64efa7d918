-- Worked rows: ids of a block, marked.
use Rattle.std.proofs.Common.{◌≡◌, ℕ, true, false, List, [], ◌∷◌, Option, Some, None, refl}
use Rattle.std.specs.FinMap.{empty, insert, get-empty, get-insert}
use Rattle.std.specs.Cmp.Lexicographic.{nat_list_cmp_total}
use Rattle.rules.specs.declared.first_use.FirstUse.{FirstUse}
use Rattle.rules.specs.declared.flag.Flag.TheVariants.{Valid}
use Rattle.rules.specs.FirstUses.{FirstUses}
use Rattle.txid_index.specs.Marks.{marks}

-- places without an id, with an id of an accepted block, with one that repeats
abbrev ids : List (Option (List ℕ))
ids = None ∷ Some (98 ∷ []) ∷ Some (97 ∷ []) ∷ Some (98 ∷ []) ∷ None ∷ Some (98 ∷ 97 ∷ []) ∷ []

abbrev a_is_used : FirstUses
a_is_used = insert empty (97 ∷ []) (record { block = 0; place = 0; flag = Valid })

pub nothing_used : marks empty [] ids ≡ false ∷ false ∷ false ∷ true ∷ false ∷ false ∷ []
nothing_used = simp get-empty refl

pub one_used : marks a_is_used [] ids ≡ false ∷ false ∷ true ∷ true ∷ false ∷ false ∷ []
one_used = simp (get-insert {X = FirstUse} nat_list_cmp_total, get-empty) refl
