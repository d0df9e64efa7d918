-- What rows of matches hold under an id.
use Rattle.std.proofs.Common.{◌≡◌, ◌∙◌, ◌+◌, ◌&&◌, ◌||◌, ℕ, Bool, cond, true, false, refl, sym, ap, List, [], ◌∷◌, ◌++◌, length, Option, Some, None, true≢false, append-nil}
use Rattle.std.specs.Prelude.{codes, slice_get}
use Rattle.std.specs.List.{find, list_any}
use Rattle.std.specs.Option.{option_map}
use Rattle.std.specs.Prelude.{option_and_then}
use Rattle.std.specs.Str.{bytes_eq}
use Rattle.std.proofs.lemmas.Slice.Eq.{bytes_eq-Decides}
use Rattle.clap.specs.Walk.{Row, Text, all_of, at_row, first_of, has_row, more_values, one_of, row_text, with_values, without}
use Rattle.clap.specs.declared.builder.value_parser.Reading.{Reading}
use Rattle.clap.specs.declared.parser.matches.ValueSource.{ValueSource}

pub same : (xs ys : Text) → bytes_eq xs ys ≡ true → xs ≡ ys
same xs ys e = (bytes_eq-Decides xs ys).0 e

pub itself : (xs : Text) → bytes_eq xs xs ≡ true
itself xs = (bytes_eq-Decides xs xs).1 refl

pub flipped : (xs ys : Text) (b : Bool) → bytes_eq xs ys ≡ b → bytes_eq ys xs ≡ b
flipped xs ys true e = ap (λ zs. bytes_eq ys zs) (same xs ys e) ∙ itself ys
flipped xs ys false e = go (bytes_eq ys xs) refl
  where
    go : (b : Bool) → bytes_eq ys xs ≡ b → b ≡ false
    go false f = refl
    go true f = absurd (true≢false (sym (itself ys) ∙ ap (λ zs. bytes_eq zs ys) (same ys xs f) ∙ e))

abbrev pub values_at : Text → List Row → List Text
values_at id [] = []
values_at id (r ∷ rs) = cond (bytes_eq r.id id) r.values (values_at id rs)

abbrev pub if_same : Text → Text → List Text → List Text
if_same id other vs = cond (bytes_eq id other) vs []

-- the values of a use are added to those of its id
pub values_added : (id other : Text) (how : Reading) (s : ValueSource) (vs : List Text) (rows : List Row)
    → values_at other (with_values id how s vs rows) ≡ values_at other rows ++ if_same id other vs
values_added id other how s vs [] = refl
values_added id other how s vs (r ∷ rs) = here (values_added id other how s vs rs) (bytes_eq r.id id) refl
  where
    met : (b : Bool) → cond b (r.values ++ vs) (values_at other rs) ≡ cond b r.values (values_at other rs) ++ cond b vs []
    met true = refl
    met false = sym (append-nil (values_at other rs))

    unmet : values_at other (with_values id how s vs rs) ≡ values_at other rs ++ if_same id other vs → bytes_eq r.id id ≡ false
        → (b : Bool) → bytes_eq r.id other ≡ b
        → cond b r.values (values_at other (with_values id how s vs rs)) ≡ cond b r.values (values_at other rs) ++ if_same id other vs
    unmet rest e true f =
        let apart : bytes_eq id other ≡ false = flipped other id false (ap (λ t. bytes_eq t id) (sym (same r.id other f)) ∙ e) in
        rw apart (sym (append-nil r.values))
    unmet rest e false f = rest

    here : values_at other (with_values id how s vs rs) ≡ values_at other rs ++ if_same id other vs → (b : Bool) → bytes_eq r.id id ≡ b
        → values_at other (cond b (more_values s vs r ++ rs) (r ∷ with_values id how s vs rs))
        ≡ cond (bytes_eq r.id other) r.values (values_at other rs) ++ if_same id other vs
    here rest true e = rw (same r.id id e) (met (bytes_eq id other))
    here rest false e = unmet rest e (bytes_eq r.id other) refl

-- and the id has a row, as all had that had one
pub row_added : (id other : Text) (how : Reading) (s : ValueSource) (vs : List Text) (rows : List Row)
    → has_row other (with_values id how s vs rows) ≡ (has_row other rows || bytes_eq id other)
row_added id other how s vs [] = last (bytes_eq id other)
  where
    last : (b : Bool) → (b || false) ≡ (false || b)
    last true = refl
    last false = refl
row_added id other how s vs (r ∷ rs) = here (row_added id other how s vs rs) (bytes_eq r.id id) refl
  where
    rest : (c : Bool) → c ≡ (c || false)
    rest true = refl
    rest false = refl

    met : (b : Bool) → (b || has_row other rs) ≡ ((b || has_row other rs) || b)
    met true = refl
    met false = rest (has_row other rs)

    unmet : has_row other (with_values id how s vs rs) ≡ (has_row other rs || bytes_eq id other)
        → (b : Bool) → (b || has_row other (with_values id how s vs rs)) ≡ ((b || has_row other rs) || bytes_eq id other)
    unmet h true = refl
    unmet h false = h

    here : has_row other (with_values id how s vs rs) ≡ (has_row other rs || bytes_eq id other) → (b : Bool) → bytes_eq r.id id ≡ b
        → has_row other (cond b (more_values s vs r ++ rs) (r ∷ with_values id how s vs rs))
        ≡ ((bytes_eq r.id other || has_row other rs) || bytes_eq id other)
    here h true e = rw (same r.id id e) (met (bytes_eq id other))
    here h false e = unmet h (bytes_eq r.id other)

pub no_values : (id : Text) (rows : List Row) → has_row id rows ≡ false → values_at id rows ≡ []
no_values id [] e = refl
no_values id (r ∷ rs) e = go (no_values id rs) (bytes_eq r.id id) e
  where
    go : (has_row id rs ≡ false → values_at id rs ≡ []) → (b : Bool) → (b || has_row id rs) ≡ false → cond b r.values (values_at id rs) ≡ []
    go h true f = absurd (true≢false f)
    go h false f = h f

pub none_removed : (id : Text) (rows : List Row) → has_row id rows ≡ false → without id rows ≡ rows
none_removed id [] e = refl
none_removed id (r ∷ rs) e = go (none_removed id rs) (bytes_eq r.id id) e
  where
    go : (has_row id rs ≡ false → without id rs ≡ rs) → (b : Bool) → (b || has_row id rs) ≡ false → cond b rs (r ∷ without id rs) ≡ r ∷ rs
    go h true f = absurd (true≢false f)
    go h false f = ap (λ xs. r ∷ xs) (h f)

-- what the getters give of an id that has a row, by its values
pub all_by_row : (id : Text) (rows : List Row) → has_row id rows ≡ true → all_of id rows ≡ Some (values_at id rows)
all_by_row id [] e = absurd (true≢false (sym e))
all_by_row id (r ∷ rs) e = go (all_by_row id rs) (bytes_eq r.id id) e
  where
    go : (has_row id rs ≡ true → all_of id rs ≡ Some (values_at id rs)) → (b : Bool) → (b || has_row id rs) ≡ true
        → option_map (λ (x : Row). x.values) (cond b (Some r) (find (λ x. bytes_eq x.id id) rs)) ≡ Some (cond b r.values (values_at id rs))
    go h true f = refl
    go h false f = h f

pub none_by_row : (id : Text) (rows : List Row) → has_row id rows ≡ false → find (λ (x : Row). bytes_eq x.id id) rows ≡ None
none_by_row id [] e = refl
none_by_row id (r ∷ rs) e = go (none_by_row id rs) (bytes_eq r.id id) e
  where
    go : (has_row id rs ≡ false → find (λ (x : Row). bytes_eq x.id id) rs ≡ None) → (b : Bool) → (b || has_row id rs) ≡ false
        → cond b (Some r) (find (λ (x : Row). bytes_eq x.id id) rs) ≡ None
    go h true f = absurd (true≢false f)
    go h false f = h f

pub first_by_row : (id : Text) (rows : List Row) → has_row id rows ≡ true → first_of id rows ≡ slice_get (values_at id rows) 0
first_by_row id [] e = absurd (true≢false (sym e))
first_by_row id (r ∷ rs) e = go (first_by_row id rs) (bytes_eq r.id id) e
  where
    go : (has_row id rs ≡ true → first_of id rs ≡ slice_get (values_at id rs) 0) → (b : Bool) → (b || has_row id rs) ≡ true
        → option_and_then (λ (x : Row). slice_get x.values 0) (cond b (Some r) (find (λ x. bytes_eq x.id id) rs)) ≡ slice_get (cond b r.values (values_at id rs)) 0
    go h true f = refl
    go h false f = h f
