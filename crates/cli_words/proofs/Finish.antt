-- Defaults, which arguments without a row get at the end.
use Rattle.std.proofs.Common.{◌≡◌, ◌∙◌, ◌&&◌, ◌||◌, Bool, cond, true, false, refl, sym, ap, ap₂, subst, List, [], ◌∷◌, ◌++◌, length, Option, Some, None, true≢false}
use Rattle.std.specs.Prelude.{find, fold, is_some, option_and_then, option_map, slice_get}
use Rattle.std.specs.Str.{bytes_eq}
use Rattle.clap.specs.Walk.{Row, Rule, Text, all_of, default_rows, first_of, has_row, more_values, one_of, reading_by, row_text, with_default, with_values}
use Rattle.clap.specs.declared.builder.value_parser.Reading.{Reading}
use Rattle.clap.specs.declared.parser.matches.ValueSource.{ValueSource}
use Rattle.clap.specs.declared.parser.matches.ValueSource.TheVariants.{DefaultValue}
use Rattle.cli_words.proofs.Rows.{flipped, none_by_row, row_added, same}

abbrev pub row_at : Text → List Row → Option Row
row_at id rows = find (λ r. bytes_eq r.id id) rows

abbrev pub new_row : Text → Reading → ValueSource → List Text → Row
new_row id how s vs = record { id = id; values = vs; count = None; source = Some s; reading = how }

-- what is added to an id without a row is its row, and others keep theirs
row_at_new : (id other : Text) (how : Reading) (s : ValueSource) (vs : List Text) (rows : List Row) → has_row id rows ≡ false
    → row_at other (with_values id how s vs rows) ≡ cond (has_row other rows) (row_at other rows) (cond (bytes_eq id other) (Some (new_row id how s vs)) None)
row_at_new id other how s vs [] none = refl
row_at_new id other how s vs (r ∷ rs) none = here (bytes_eq r.id id) none (row_at_new id other how s vs rs)
  where
    there : (b : Bool) → row_at other (with_values id how s vs rs) ≡ cond (has_row other rs) (row_at other rs) (cond (bytes_eq id other) (Some (new_row id how s vs)) None)
        → cond b (Some r) (row_at other (with_values id how s vs rs))
        ≡ cond (b || has_row other rs) (cond b (Some r) (row_at other rs)) (cond (bytes_eq id other) (Some (new_row id how s vs)) None)
    there true rest = refl
    there false rest = rest

    here : (b : Bool) → (b || has_row id rs) ≡ false
        → (has_row id rs ≡ false → row_at other (with_values id how s vs rs) ≡ cond (has_row other rs) (row_at other rs) (cond (bytes_eq id other) (Some (new_row id how s vs)) None))
        → row_at other (cond b (more_values s vs r ++ rs) (r ∷ with_values id how s vs rs))
        ≡ cond (bytes_eq r.id other || has_row other rs) (cond (bytes_eq r.id other) (Some r) (row_at other rs)) (cond (bytes_eq id other) (Some (new_row id how s vs)) None)
    here true none rest = absurd (true≢false none)
    here false none rest = there (bytes_eq r.id other) (rest none)

-- the first argument of an id that has a default
abbrev pub are_some : List Text → Bool
are_some [] = false
are_some (v ∷ vs) = true

abbrev pub has_default : Rule → Bool
has_default a = are_some a.defaults

abbrev pub default_row : Rule → Row
default_row a = new_row a.id (reading_by a) DefaultValue a.defaults

abbrev pub defaulted : Text → List Rule → Option Row
defaulted id c = option_map default_row (find (λ a. bytes_eq a.id id && has_default a) c)

-- the step at one argument
stepped : (id : Text) (a : Rule) (rows : List Row)
    → row_at id (with_default rows a) ≡ cond (has_row id rows) (row_at id rows) (cond (bytes_eq a.id id && has_default a) (Some (default_row a)) None)
stepped id a rows = go (has_row a.id rows) refl a.defaults refl
  where
    kept : (b : Bool) (d : Bool) → has_row id rows ≡ b → (b ≡ false → d ≡ false) → row_at id rows ≡ cond b (row_at id rows) (cond d (Some (default_row a)) None)
    kept true d e f = refl
    kept false d e f = none_by_row id rows e ∙ sym (ap (λ x. cond x (Some (default_row a)) None) (f refl))

    apart : (b : Bool) → bytes_eq a.id id ≡ b → has_row a.id rows ≡ true → has_row id rows ≡ false → (b && has_default a) ≡ false
    apart true e has none = absurd (true≢false (sym has ∙ ap (λ t. has_row t rows) (same a.id id e) ∙ none))
    apart false e has none = refl

    empty : (b : Bool) → a.defaults ≡ [] → (b && has_default a) ≡ false
    empty true e = ap are_some e
    empty false e = refl

    both : (b : Bool) → b ≡ (b && true)
    both true = refl
    both false = refl

    go : (h : Bool) → has_row a.id rows ≡ h → (ds : List Text) → a.defaults ≡ ds
        → row_at id (cond h rows (default_rows a.id (reading_by a) a.defaults rows))
        ≡ cond (has_row id rows) (row_at id rows) (cond (bytes_eq a.id id && has_default a) (Some (default_row a)) None)
    go true e ds f = kept (has_row id rows) _ refl (λ none. apart (bytes_eq a.id id) refl e none)
    go false e [] f =
        ap (λ ds. row_at id (default_rows a.id (reading_by a) ds rows)) f ∙ kept (has_row id rows) _ refl (λ none. empty (bytes_eq a.id id) f)
    go false e (d ∷ ds) f =
        ap (λ ds. row_at id (default_rows a.id (reading_by a) ds rows)) f
        ∙ row_at_new a.id id (reading_by a) DefaultValue (d ∷ ds) rows e
        ∙ ap (λ b. cond (has_row id rows) (row_at id rows) (cond b (Some (new_row a.id (reading_by a) DefaultValue (d ∷ ds))) None)) (both (bytes_eq a.id id))
        ∙ ap (λ ds. cond (has_row id rows) (row_at id rows) (cond (bytes_eq a.id id && are_some ds) (Some (new_row a.id (reading_by a) DefaultValue ds)) None)) (sym f)

has_by_row : (id : Text) (rows : List Row) → has_row id rows ≡ is_some (row_at id rows)
has_by_row id [] = refl
has_by_row id (r ∷ rs) = go (bytes_eq r.id id) (has_by_row id rs)
  where
    go : (b : Bool) → has_row id rs ≡ is_some (row_at id rs) → (b || has_row id rs) ≡ is_some (cond b (Some r) (row_at id rs))
    go true h = refl
    go false h = h

-- after all of them an id has its row, or that of its default
pub finishes : (id : Text) (c : List Rule) (rows : List Row) → row_at id (fold with_default rows c) ≡ cond (has_row id rows) (row_at id rows) (defaulted id c)
finishes id [] rows = go (has_row id rows) refl
  where
    go : (b : Bool) → has_row id rows ≡ b → row_at id rows ≡ cond b (row_at id rows) None
    go true e = refl
    go false e = none_by_row id rows e
finishes id (a ∷ c) rows =
    finishes id c (with_default rows a)
    ∙ ap₂ (λ b o. cond b o (defaulted id c)) (has_by_row id (with_default rows a) ∙ ap is_some (stepped id a rows)) (stepped id a rows)
    ∙ go (has_row id rows) refl (bytes_eq a.id id && has_default a)
  where
    one : (o : Option Row) → is_some o ≡ true → cond (is_some o) o (defaulted id c) ≡ o
    one None e = absurd (true≢false (sym e))
    one (Some r) e = refl

    go : (b : Bool) → has_row id rows ≡ b → (d : Bool)
        → cond (is_some (cond b (row_at id rows) (cond d (Some (default_row a)) None))) (cond b (row_at id rows) (cond d (Some (default_row a)) None)) (defaulted id c)
        ≡ cond b (row_at id rows) (option_map default_row (cond d (Some a) (find (λ a. bytes_eq a.id id && has_default a) c)))
    go true e d = one (row_at id rows) (sym (has_by_row id rows) ∙ e)
    go false e true = refl
    go false e false = refl
