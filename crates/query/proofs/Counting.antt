-- The step that adds a delta keeps the count right.
use Rattle.std.proofs.Common.{◌≡◌, ℕ, ◌+◌, ◌<◌, ◌==◌, Bool, true, false, List, [], ◌∷◌, ◌++◌, length, refl, ap, sym, subst, arith, inl, length-append, None}
use Rattle.std.proofs.lemmas.List.{append-nil}
use Rattle.std.proofs.lemmas.Bool.Decides.{nat_tests}
use mathlib.Core.List.{IsPrefix}
use prog.Atomic.{either}
use Rattle.logbook.specs.Pages.{Cell, View, cell, keeps, no_nib, step, Moves, Goes}
use Rattle.rules.specs.declared.delta.Delta.{Delta}
use Rattle.query.specs.Counted.{IsCounted, Adds}
use Rattle.query.proofs.Beginnings.{is_whole}

-- what clients see of the list, and how an update moves that: nothing
abbrev shows : List Delta → List Delta
shows list = []

abbrev moves : List Delta → List Delta → ℕ → Type 0
moves before after answer = Unit {0}

-- a view without a pen and before its update
abbrev seen : List Delta → View Delta ℕ
seen known = (known, (no_nib, None))

abbrev counted : ℕ → List Cell
counted n = (n, true) ∷ (0, true) ∷ []

abbrev Steps : List Delta → Delta → ℕ → List Cell → List Delta → Type 0
Steps known d count = Goes IsCounted shows moves 0 (seen known) (λ n. either (n == count) (count + 1) n) (Adds (step 0 count (count + 1) d) (seen known))

steps : (list known : List Delta) (d : Delta) (count : ℕ) → length known ≡ count → IsPrefix known list
    → (test : Bool) → (length list == count) ≡ test → Steps known d count (counted (length list)) list
steps list known d count counts begins true is =
    let here : length list ≡ count = grind (arith, nat_tests) in
    let whole : known ≡ list = is_whole known list begins (omega arith) in
    let longer : either (length list == count) (count + 1) (length list) ≡ length (list ++ d ∷ []) = rw is (omega (arith, length-append list (d ∷ []))) in
    (keeps, d ∷ [], None, tt, record { words = ap counted longer }, inl (refl, refl), rw is (ap (λ ds. ds ++ d ∷ []) (sym whole)))
steps list known d count counts begins false is =
    let same : list ++ [] ≡ list = append-nil list in
    let stays : either (length list == count) (count + 1) (length list) ≡ length (list ++ []) = rw is (ap length (sym same)) in
    (keeps, [], None, tt, record { words = ap counted stays }, inl (refl, refl), rw is (ap length same))

pub adds : (known : List Delta) (d : Delta) (count : ℕ) → length known ≡ count
    → Moves IsCounted shows moves 0 (seen known) (λ n. either (n == count) (count + 1) n) (Adds (step 0 count (count + 1) d) (seen known))
adds known d count counts cells list kept begins away =
    let Goal : List Cell → Type 0 = λ cs. (0 < length cs) × ((cell cs 0).1 ≡ true) × Steps known d count cs list in
    subst Goal (sym kept.words) (omega arith, refl, steps list known d count counts begins (length list == count) refl)
