-- What uses of options and operands leave in the rows, if nothing is at fault.
use Rattle.std.proofs.Common.{◌≡◌, ◌∙◌, ◌==◌, ◌&&◌, ◌||◌, ◌⊎◌, inl, inr, ℕ, Bool, cond, true, false, refl, sym, ap, subst, List, [], ◌∷◌, ◌++◌, length, suc, Option, Some, None, true≢false, append-nil, arith}
use Rattle.std.specs.Prelude.{codes}
use Rattle.std.specs.Option.{option_map_or}
use Rattle.std.specs.Str.{bytes_eq}
use Rattle.std.proofs.lemmas.List.{length-append}
use Rattle.std.proofs.lemmas.Bool.Decides.{nat_tests}
use Rattle.clap.specs.Faults.{action_fault, set_fault, settle_fault, use_fault, values_fault}
use Rattle.clap.specs.Kinds.{Kinds, or_else, range_kinds}
use Rattle.clap.specs.Walk.{Held, Row, Rule, Text, action_of, arg_by_id, has_row, most_values, reading_by, settled_rows, used, used_as, used_by_id, values_or_missing, with_values, without}
use Rattle.clap.specs.declared.builder.action.ArgAction.{ArgAction}
use Rattle.clap.specs.declared.builder.action.ArgAction.TheVariants.{Set, Append, SetTrue}
use Rattle.clap.specs.declared.builder.value_parser.Reading.{Reading}
use Rattle.clap.specs.declared.error.kind.ErrorKind.TheVariants.{ArgumentConflict}
use Rattle.clap.specs.declared.parser.matches.ValueSource.TheVariants.{CommandLine}
use Rattle.cli_words.proofs.Rows.{if_same, itself, no_values, none_removed, row_added, same, values_added, values_at}
use Rattle.cli_words.proofs.Tables.{TakesNone, TakesOne, id_found, least_of}

-- ---- faults

abbrev pub some_kind : Kinds → Bool
some_kind [] = false
some_kind (k ∷ ks) = true

pub no_kind : (ks : Kinds) → some_kind ks ≡ true → ks ≡ [] → ⊥
no_kind ks e none = true≢false (sym e ∙ ap some_kind none)

pub neither : (a b : Kinds) → or_else a b ≡ [] → (a ≡ []) × (b ≡ [])
neither [] b e = (refl, e)
neither (k ∷ ks) b e = absurd (no_kind (k ∷ ks) refl e)

-- ---- values of ids

-- the values that an id may have, by what its uses do
abbrev pub FitsAction : ArgAction → List Text → Type 0
FitsAction Set vs = (v : Text) × (vs ≡ v ∷ [])
FitsAction SetTrue vs = vs ≡ codes "true" ∷ []
FitsAction Append vs = length vs ≡ 0 → ⊥
FitsAction other vs = ⊥

abbrev pub Fits : Option Rule → List Text → Type 0
Fits None vs = ⊥
Fits (Some a) vs = FitsAction (action_of a) vs

abbrev pub AreFitting : List Rule → List Row → Type 0
AreFitting c rows = (id : Text) → has_row id rows ≡ true → Fits (arg_by_id c id) (values_at id rows)

or_false : (b : Bool) → (b || false) ≡ b
or_false true = refl
or_false false = refl

added_fits : (c : List Rule) (a : Rule) (how : Reading) (vs : List Text) (rows : List Row) → arg_by_id c a.id ≡ Some a
    → FitsAction (action_of a) (values_at a.id rows ++ vs) → AreFitting c rows → AreFitting c (with_values a.id how CommandLine vs rows)
added_fits c a how vs rows is fits good other has = go (bytes_eq a.id other) refl
  where
    go : (b : Bool) → bytes_eq a.id other ≡ b → Fits (arg_by_id c other) (values_at other (with_values a.id how CommandLine vs rows))
    go true e =
        let own : Fits (arg_by_id c a.id) (values_at a.id (with_values a.id how CommandLine vs rows)) =
        subst (λ (o : Option Rule). Fits o (values_at a.id (with_values a.id how CommandLine vs rows))) (sym is)
        (subst (FitsAction (action_of a)) (sym (values_added a.id a.id how CommandLine vs rows ∙ ap (λ b. values_at a.id rows ++ cond b vs []) (itself a.id))) fits) in
        subst (λ t. Fits (arg_by_id c t) (values_at t (with_values a.id how CommandLine vs rows))) (same a.id other e) own
    go false e =
        let had : has_row other rows ≡ true =
        sym (or_false (has_row other rows)) ∙ sym (ap (λ b. has_row other rows || b) e) ∙ sym (row_added a.id other how CommandLine vs rows) ∙ has in
        let kept : values_at other rows ≡ values_at other (with_values a.id how CommandLine vs rows) =
        sym (append-nil (values_at other rows)) ∙ sym (values_added a.id other how CommandLine vs rows ∙ ap (λ b. values_at other rows ++ cond b vs []) e) in
        subst (Fits (arg_by_id c other)) kept (good other had)

-- ---- one use

abbrev pub Adds : List Rule → List Row → List Row → Text → List Text → Type 0
Adds c rows new id vs = AreFitting c new × ((other : Text) → values_at other new ≡ values_at other rows ++ if_same id other vs)

no_repeat : (has : Bool) (ks : Kinds) (k : _) → or_else (cond (has && true) (k ∷ []) []) ks ≡ [] → has ≡ false
no_repeat true ks k e = absurd (no_kind _ refl e)
no_repeat false ks k e = refl

only_one : (vs : List Text) → range_kinds 1 1 (length vs) ≡ [] → (v : Text) × (vs ≡ v ∷ [])
only_one [] e = absurd (no_kind _ refl e)
only_one (v ∷ []) e = (v, refl)
only_one (v ∷ w ∷ vs) e = absurd (no_kind _ (many (length vs)) e)
  where
    many : (n : ℕ) → some_kind (range_kinds 1 1 (suc (suc n))) ≡ true
    many n =
        let above : (suc (suc n) == 0) ≡ false = grind (arith, nat_tests) in
        let other : (1 == suc (suc n)) ≡ false = grind (arith, nat_tests) in
        rw (above, other) refl

with_added : (c : List Rule) (a : Rule) (vs : List Text) (rows : List Row) → arg_by_id c a.id ≡ Some a
    → FitsAction (action_of a) (values_at a.id rows ++ vs) → AreFitting c rows → Adds c rows (with_values a.id (reading_by a) CommandLine vs rows) a.id vs
with_added c a vs rows is fits good =
    (added_fits c a (reading_by a) vs rows is fits good, λ other. values_added a.id other (reading_by a) CommandLine vs rows)

-- what is set has no row before
set_once : (c : List Rule) (a : Rule) (v : Text) (rows : List Row) (x : ArgAction) → action_of a ≡ x → arg_by_id c a.id ≡ Some a
    → ((has_row a.id rows ≡ false) → used_as x a.id (reading_by a) (v ∷ []) rows ≡ with_values a.id (reading_by a) CommandLine (v ∷ []) rows)
    → FitsAction x (v ∷ []) → set_fault false a (v ∷ []) rows ≡ [] → AreFitting c rows
    → Adds c rows (used_as (action_of a) a.id (reading_by a) (v ∷ []) rows) a.id (v ∷ [])
set_once c a v rows x action is as_set fits fault good =
    let has : has_row a.id rows ≡ false = no_repeat (has_row a.id rows) (values_fault a (v ∷ [])) ArgumentConflict fault in
    let used_is : used_as (action_of a) a.id (reading_by a) (v ∷ []) rows ≡ with_values a.id (reading_by a) CommandLine (v ∷ []) rows =
    ap (λ y. used_as y a.id (reading_by a) (v ∷ []) rows) action ∙ as_set has in
    let fitting : FitsAction (action_of a) (values_at a.id rows ++ v ∷ []) =
    subst (λ y. FitsAction y (values_at a.id rows ++ v ∷ [])) (sym action)
    (subst (λ xs. FitsAction x (xs ++ v ∷ [])) (sym (no_values a.id rows has)) fits) in
    subst (λ new. Adds c rows new a.id (v ∷ [])) (sym used_is) (with_added c a (v ∷ []) rows is fitting good)

ranged : (a : Rule) (n : ℕ) → TakesOne a → range_kinds (least_of a) (most_values a) n ≡ [] → range_kinds 1 1 n ≡ []
ranged a n one e = subst (λ most. range_kinds 1 most n ≡ []) one.1 (subst (λ least. range_kinds least (most_values a) n ≡ []) one.2 e)

-- an option with its value
pub one_used : (c : List Rule) (a : Rule) (vs : List Text) (rows : List Row) → arg_by_id c a.id ≡ Some a → TakesOne a
    → use_fault false a vs rows ≡ [] → AreFitting c rows → Adds c rows (used a vs rows) a.id vs
one_used c a vs rows is one fault good =
    let counted : (range_kinds (least_of a) (most_values a) (length vs) ≡ []) × (action_fault (action_of a) false a (values_or_missing a vs) rows ≡ []) = neither _ _ fault in
    let few = ranged a (length vs) one counted.0 in
    by vs (only_one vs few) counted.1
  where
    by : (vs : List Text) → (v : Text) × (vs ≡ v ∷ []) → action_fault (action_of a) false a (values_or_missing a vs) rows ≡ []
        → Adds c rows (used a vs rows) a.id vs
    by vs (v, e) fault =
        let first : action_fault (action_of a) false a (v ∷ []) rows ≡ [] = subst (λ ws. action_fault (action_of a) false a (values_or_missing a ws) rows ≡ []) e fault in
        let set : set_fault false a (v ∷ []) rows ≡ [] = subst (λ x. action_fault x false a (v ∷ []) rows ≡ []) one.0 first in
        let added = set_once c a v rows Set one.0 is (λ has. ap (with_values a.id (reading_by a) CommandLine (v ∷ [])) (none_removed a.id rows has)) (v, refl) set good in
        subst (λ ws. Adds c rows (used a ws rows) a.id ws) (sym e) added

-- an option without one
pub none_used : (c : List Rule) (a : Rule) (rows : List Row) → arg_by_id c a.id ≡ Some a → TakesNone a
    → use_fault false a [] rows ≡ [] → AreFitting c rows → Adds c rows (used a [] rows) a.id (codes "true" ∷ [])
none_used c a rows is none fault good =
    let counted : (range_kinds (least_of a) (most_values a) 0 ≡ []) × (action_fault (action_of a) false a a.missing rows ≡ []) = neither _ _ fault in
    let set : set_fault false a (codes "true" ∷ []) rows ≡ [] =
    subst (λ x. action_fault x false a (codes "true" ∷ []) rows ≡ []) none.0 (subst (λ ws. action_fault (action_of a) false a ws rows ≡ []) none.3 counted.1) in
    let added = set_once c a (codes "true") rows SetTrue none.0 is
    (λ has. ap (with_values a.id (reading_by a) CommandLine (codes "true" ∷ [])) (none_removed a.id rows has)) refl set good in
    subst (λ ws. Adds c rows (used_as (action_of a) a.id (reading_by a) ws rows) a.id (codes "true" ∷ [])) (sym none.3) added

-- operands
pub more_used : (c : List Rule) (a : Rule) (vs : List Text) (rows : List Row) → arg_by_id c a.id ≡ Some a → action_of a ≡ Append
    → (length vs ≡ 0 → ⊥) → AreFitting c rows → Adds c rows (used a vs rows) a.id vs
more_used c a [] rows is more some good = absurd (some refl)
more_used c a (v ∷ vs) rows is more some good =
    let fitting : FitsAction (action_of a) (values_at a.id rows ++ v ∷ vs) =
    subst (λ x. FitsAction x (values_at a.id rows ++ v ∷ vs)) (sym more) (λ none. absurd (omega (arith, length-append (values_at a.id rows) (v ∷ vs), none))) in
    subst (λ x. Adds c rows (used_as x a.id (reading_by a) (v ∷ vs) rows) a.id (v ∷ vs)) (sym more) (with_added c a (v ∷ vs) rows is fitting good)

-- ---- what is pending

abbrev pub Pending : Type 0
Pending = Option (Text × List Text)

-- the values of an argument that its use is still to add
abbrev pub IsPending : List Rule → Pending → Type 0
IsPending c None = Unit {0}
IsPending c (Some p) = (a : Rule) × ((arg_by_id c p.0 ≡ Some a) × ((length p.1 ≡ 0 → ⊥) × (TakesOne a ⊎ (action_of a ≡ Append))))

abbrev pub still : Pending → Text → List Text
still None id = []
still (Some p) id = if_same p.0 id p.1

abbrev pub held : List Row → Pending → Held
held rows p = record { rows = rows; pending = p; skip = 0 }

abbrev pub SettlesTo : List Rule → List Row → Pending → List Row → Type 0
SettlesTo c rows p new = AreFitting c new × ((id : Text) → values_at id new ≡ values_at id rows ++ still p id)

pub settles : (c : List Rule) (rows : List Row) (p : Pending) → IsPending c p → AreFitting c rows → settle_fault c false (held rows p) ≡ []
    → SettlesTo c rows p (settled_rows c p rows)
settles c rows None is good fault = (good, λ id. sym (append-nil (values_at id rows)))
settles c rows (Some p) (a, (found, (some, how))) good fault =
    let id_is : a.id ≡ p.0 = id_found c p.0 a found in
    let own : arg_by_id c a.id ≡ Some a = ap (arg_by_id c) id_is ∙ found in
    let fine : use_fault false a p.1 rows ≡ [] = subst (λ o. option_map_or (λ x. use_fault false x p.1 rows) o [] ≡ []) found fault in
    subst (λ o. SettlesTo c rows (Some p) (used_by_id o p.1 rows)) (sym found)
    (subst (λ t. AreFitting c (used a p.1 rows) × ((id : Text) → values_at id (used a p.1 rows) ≡ values_at id rows ++ if_same t id p.1)) id_is (by own fine how))
  where
    by : arg_by_id c a.id ≡ Some a → use_fault false a p.1 rows ≡ [] → TakesOne a ⊎ (action_of a ≡ Append) → Adds c rows (used a p.1 rows) a.id p.1
    by own fine (inl one) = one_used c a p.1 rows own one fine good
    by own fine (inr more) = more_used c a p.1 rows own more some good

-- an option that has no value is at fault
pub lacks_value : (c : List Rule) (rows : List Row) (id : Text) (a : Rule) → arg_by_id c id ≡ Some a → TakesOne a
    → settle_fault c false (held rows (Some (id, []))) ≡ [] → ⊥
lacks_value c rows id a found one fault =
    let fine : use_fault false a [] rows ≡ [] = subst (λ o. option_map_or (λ x. use_fault false x [] rows) o [] ≡ []) found fault in
    let counted : (range_kinds (least_of a) (most_values a) 0 ≡ []) × (action_fault (action_of a) false a (values_or_missing a []) rows ≡ []) = neither _ _ fine in
    no_kind (range_kinds 1 1 0) refl (ranged a 0 one counted.0)
