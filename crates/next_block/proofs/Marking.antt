-- What was tentative of a block, and marked.
use Rattle.std.proofs.Common.{◌≡◌, ◌≤◌, ℕ, suc, Bool, true, false, List, [], ◌∷◌, Option, length, refl, ap, arith}
use Rattle.std.specs.List.{list_any}
use Rattle.rules.specs.Candidate.{Candidate}
use Rattle.rules.specs.FirstUses.{FirstUses}
use Rattle.intake.specs.Tentative.{marked}
use Rattle.txid_index.specs.Marks.{marks}

-- where no id is used, the candidates stay as they are
pub unmarked-stay : (cs : List Candidate) (used : List Bool) → length used ≡ length cs → list_any (λ is_used. is_used) used ≡ false → marked cs used ≡ cs
unmarked-stay [] [] count none = refl
unmarked-stay [] (u ∷ us) count none = refl
unmarked-stay (c ∷ cs) [] count none = absurd (omega (arith, count))
unmarked-stay (c ∷ cs) (true ∷ us) count none = absurd cc
unmarked-stay (c ∷ cs) (false ∷ us) count none = λ i. c ∷ unmarked-stay cs us (omega (arith, count)) none i

pub few_marked : (cs : List Candidate) (used : List Bool) (most : ℕ) → length cs ≤ most → length (marked cs used) ≤ most
few_marked cs used most few = omega (arith, few, no_more cs used)
  where
    no_more : (cs : List Candidate) (used : List Bool) → length (marked cs used) ≤ length cs
    no_more [] used = omega arith
    no_more (c ∷ cs) [] = omega arith
    no_more (c ∷ cs) (u ∷ us) = omega (arith, no_more cs us)

pub as_many-marks : (uses : FirstUses) (earlier : List (List ℕ)) (ids : List (Option (List ℕ))) → length (marks uses earlier ids) ≡ length ids
as_many-marks uses earlier [] = refl
as_many-marks uses earlier (id ∷ ids) = ap suc (as_many-marks uses _ ids)
