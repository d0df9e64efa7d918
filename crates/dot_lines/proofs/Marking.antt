-- Which places are named by the first n reasons.
use Rattle.std.proofs.Common.{◌≡◌, ℕ, suc, ◌+◌, ◌<◌, Bool, true, false, cond, List, [], ◌++◌, take, length, get_or, Option, Some, None, refl, sym, ap, ◌∙◌, eqb-true, arith}
use Rattle.std.specs.Prelude.{◌||◌, ◌==◌, set, is_some}
use Rattle.std.specs.List.{list_any}
use Rattle.std.proofs.lemmas.Bool.{eqb-false}
use Rattle.std.proofs.lemmas.List.{get_or-set_same, get_or-set_other, length-set}
use Rattle.std.proofs.lemmas.List.Folds.{list_any_more}
use Rattle.reasons.specs.declared.reason.Reason.{Reason}
use Rattle.dot_lines.specs.declared.named.Named.{Named}
use Rattle.dot_lines.specs.declared.named.Named.TheVariants.{Here, Earlier}
use Rattle.dot_lines.specs.Edges.{named_by, is_here}
use Rattle.dot_lines.specs.Graph.{with_named, is_named, reason_at, is_shown, place_lines, first_lines}

or_false : (b : Bool) → b ≡ (b || false)
or_false true = refl
or_false false = refl

or_true : (b : Bool) → true ≡ (b || true)
or_true true = refl
or_true false = refl

within : (places : List Bool) (p i : ℕ) (same : Bool) → (p == i) ≡ same → i < length places → get_or (set places p true) i false ≡ (get_or places i false || same)
within places p i true e h =
    let is : p ≡ i = eqb-true p i e in
    ap (λ k. get_or (set places k true) i false) is ∙ get_or-set_same places i true false h ∙ or_true (get_or places i false)
within places p i false e h = get_or-set_other places p i true false (λ j. eqb-false p i e (sym j)) ∙ or_false (get_or places i false)

-- one more mark
marked : (named : Option Named) (places : List Bool) (i : ℕ) → i < length places → get_or (with_named named places) i false ≡ (get_or places i false || is_here i named)
marked (Some (Here place)) places i h = within places place i (place == i) refl h
marked (Some (Earlier block tx)) places i h = or_false (get_or places i false)
marked None places i h = or_false (get_or places i false)

pub same_length : (named : Option Named) (places : List Bool) → length (with_named named places) ≡ length places
same_length (Some (Here place)) places = length-set places place true
same_length (Some (Earlier block tx)) places = refl
same_length None places = refl

abbrev pub names : ℕ → Reason → Bool
names place reason = is_here place (named_by reason)

-- by one more reason
pub more : (reasons : List Reason) (places : List Bool) (k i : ℕ) (d : Reason) → k < length reasons → i < length places
    → get_or places i false ≡ list_any (names i) (take k reasons)
    → get_or (with_named (named_by (get_or reasons k d)) places) i false ≡ list_any (names i) (take (k + 1) reasons)
more reasons places k i d l h e =
    marked (named_by (get_or reasons k d)) places i h
    ∙ ap (λ b. b || names i (get_or reasons k d)) e
    ∙ sym (list_any_more (names i) reasons k d l)

-- ---- and which are shown

pub all_are : (all shown edge : Bool) → shown ≡ all → all ≡ true → shown ≡ (all || edge)
all_are all shown edge e is = e ∙ is ∙ sym (ap (λ a. a || edge) is)

pub by_edge : (all shown has_edge marked : Bool) (reasons : List Reason) (place : ℕ) (reason : Reason) → shown ≡ has_edge → has_edge ≡ (is_some (named_by reason) || marked)
    → marked ≡ is_named reasons place → reason ≡ reason_at reasons place → all ≡ false → shown ≡ is_shown all reasons place
by_edge all shown has_edge marked reasons place reason e f m r is =
    e ∙ f ∙ ap (λ b. is_some (named_by reason) || b) m
    ∙ ap (λ x. is_some (named_by x) || is_named reasons place) r
    ∙ sym (ap (λ a. a || (is_some (named_by (reason_at reasons place)) || is_named reasons place)) is)

pub lines_more : (all shown : Bool) (reasons : List Reason) (place : ℕ) (reason : Reason) → shown ≡ is_shown all reasons place → reason ≡ reason_at reasons place
    → first_lines all reasons place ++ cond shown (place_lines place reason) [] ≡ first_lines all reasons (place + 1)
lines_more all shown reasons place reason e r =
    ap (λ s. first_lines all reasons place ++ cond s (place_lines place reason) []) e
    ∙ ap (λ x. first_lines all reasons place ++ cond (is_shown all reasons place) (place_lines place x) []) r
    ∙ ap (first_lines all reasons) (let next : suc place ≡ place + 1 = omega arith in next)
