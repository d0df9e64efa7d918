-- The ids of earlier places, as a list and as the code's set.
use Rattle.std.proofs.Common.{◌≡◌, ℕ, ◌+◌, ◌<◌, Bool, true, false, cond, not, ◌||◌, List, [], ◌∷◌, ◌++◌, length, drop, get_or, Option, Some, None, refl, sym, ap, ◌∙◌, add-one, drop-cons}
use Rattle.std.specs.Prelude.{option_to_list}
use Rattle.std.specs.Str.{bytes_eq}
use Rattle.std.specs.List.{list_any}
use Rattle.std.specs.FinMap.{contains_key}
use Rattle.std.proofs.lemmas.List.{append_assoc}
use Rattle.std.proofs.lemmas.List.Folds.{list_any-append}
use Rattle.rules.specs.FirstUses.{FirstUses}
use Rattle.rules.specs.Candidate.{is_used}
use Rattle.rules.proofs.Booleans.{or-false, or-true}
use Rattle.txid_index.specs.Marks.{marks}
use Rattle.txid_index.specs.SameIds.{HaveSameIds}
use Rattle.txid_index.proofs.Finding.{turned}

-- ---- one place

pub or_first : (b c : Bool) → b ≡ true → b ≡ (b || c)
or_first true c e = refl
or_first false c e = absurd cc

pub or_second : (b c : Bool) → b ≡ false → c ≡ (b || c)
or_second false c e = refl
or_second true c e = absurd cc

not_not : (b : Bool) → not (not b) ≡ b
not_not true = refl
not_not false = refl

-- what the first uses and the set say of an id
pub used_there : (uses : FirstUses) (earlier : List (List ℕ)) (id : List ℕ) (known added : Bool)
    → known ≡ contains_key uses id → added ≡ not (list_any (bytes_eq id) earlier)
    → (known || not added) ≡ is_used uses earlier (Some id)
used_there uses earlier id known added k a =
    (λ i. k i || not (a i))
    ∙ ap (λ (b : Bool). contains_key uses id || b) (not_not (list_any (bytes_eq id) earlier))
    ∙ sym (or-false _)

or_found : (a b : Bool) → (a || b) ≡ cond b true a
or_found a true = or-true a
or_found a false = or-false a

-- the set with one id more
pub same_with : (old new : List (List ℕ)) (id : List ℕ)
    → ((q : List ℕ) → list_any (bytes_eq q) new ≡ cond (bytes_eq id q) true (list_any (bytes_eq q) old))
    → HaveSameIds (old ++ id ∷ []) new
same_with old new id h q =
    list_any-append (bytes_eq q) old (id ∷ [])
    ∙ ap (λ (b : Bool). list_any (bytes_eq q) old || b) (or-false (bytes_eq q id) ∙ turned q id)
    ∙ or_found (list_any (bytes_eq q) old) (bytes_eq id q)
    ∙ sym (h q)

-- ---- all places

used_alike : (uses : FirstUses) (xs ys : List (List ℕ)) → HaveSameIds xs ys → (id : Option (List ℕ)) → is_used uses xs id ≡ is_used uses ys id
used_alike uses xs ys same None = refl
used_alike uses xs ys same (Some id) = ap (λ (b : Bool). (contains_key uses id || b) || false) (same id)

more_alike : (xs ys more : List (List ℕ)) → HaveSameIds xs ys → HaveSameIds (xs ++ more) (ys ++ more)
more_alike xs ys more same q =
    list_any-append (bytes_eq q) xs more ∙ ap (λ (b : Bool). b || list_any (bytes_eq q) more) (same q) ∙ sym (list_any-append (bytes_eq q) ys more)

pub marked_alike : (uses : FirstUses) (xs ys : List (List ℕ)) → HaveSameIds xs ys → (ids : List (Option (List ℕ))) → marks uses xs ids ≡ marks uses ys ids
marked_alike uses xs ys same [] = refl
marked_alike uses xs ys same (id ∷ ids) =
    λ i. used_alike uses xs ys same id i ∷ marked_alike uses (xs ++ option_to_list id) (ys ++ option_to_list id) (more_alike xs ys (option_to_list id) same) ids i

-- one place more
pub mark_more : (uses : FirstUses) (ids : List (Option (List ℕ))) (i : ℕ) (d : Option (List ℕ)) (done next : List Bool) (before after : List (List ℕ)) (used : Bool)
    → i < length ids → used ≡ is_used uses before (get_or ids i d) → HaveSameIds (before ++ option_to_list (get_or ids i d)) after → next ≡ done ++ used ∷ []
    → done ++ marks uses before (drop i ids) ≡ marks uses [] ids
    → next ++ marks uses after (drop (i + 1) ids) ≡ marks uses [] ids
mark_more uses ids i d done next before after used lt mark same pushed so_far =
    ap (λ (l : List Bool). l ++ marks uses after (drop (i + 1) ids)) pushed
    ∙ append_assoc done (used ∷ []) (marks uses after (drop (i + 1) ids))
    ∙ ap (λ (l : List Bool). done ++ l) (sym left)
    ∙ so_far
  where
    left : marks uses before (drop i ids) ≡ used ∷ marks uses after (drop (i + 1) ids)
    left =
        ap (marks uses before) (drop-cons ids i d lt)
        ∙ (λ j. sym mark j ∷ marked_alike uses (before ++ option_to_list (get_or ids i d)) after same (drop (sym (add-one i) j) ids) j)
