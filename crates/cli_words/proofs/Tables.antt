-- What clap finds in the table of a subcommand, by name, place and id.
use Rattle.std.proofs.Common.{◌≡◌, ◌∙◌, ◌==◌, ◌&&◌, ◌||◌, ◌⊎◌, inl, inr, ℕ, Bool, cond, true, false, refl, sym, ap, List, [], ◌∷◌, length, map, Option, Some, None, true≢false}
use Rattle.std.specs.Prelude.{codes, pos, is_some, find, option_map, unwrap_or, not}
use Rattle.std.specs.List.{AllByRecursion, list_any}
use Rattle.std.specs.Option.{option_map_or}
use Rattle.std.specs.Str.{bytes_eq}
use Rattle.clap.specs.Facts.{unwrap_or_range}
use Rattle.clap.specs.Lexer.{usize_max}
use Rattle.clap.specs.Walk.{Rule, Text, action_of, arg_by_id, arg_by_index, arg_by_long, arg_by_short, has_long, most_values}
use Rattle.clap.specs.Simple.{new_rule}
use Rattle.clap.specs.declared.builder.action.ArgAction.TheVariants.{Set, Append, SetTrue, Help, Version}
use Rattle.clap.specs.declared.builder.range.ValueRange.{ValueRange}
use Rattle.clap.specs.declared.builder.value_parser.ValueParser.{ValueParser}
use Rattle.clap.specs.declared.builder.value_parser.ValueParser.TheVariants as parser
use Rattle.cli_words.specs.Items.{Options, takes_value}
use Rattle.cli_words.proofs.Rows.{same}

-- What a subcommand takes: an option with a value, which has a parser, a default or none, and may be required; an option
-- without one; operands, the only positional, of which there are some at least; an operand at a place; the flags for help and the version.
pub data Entry : Type 0 where
  valued : Text → ValueParser → List Text → Bool → Entry
  flag : Text → Entry
  several : Text → ℕ → ℕ → Entry
  single : Text → ℕ → Entry
  help : Entry
  version : Entry

abbrev pub range_of : ℕ → ℕ → Option ValueRange
range_of least most = Some (record { start_inclusive = least; end_inclusive = most })

-- as clap has it once it is built
abbrev pub rule : Entry → Rule
rule (valued name p defaults required) = record (new_rule name) {
  long = Some name;
  action = Some Set;
  range = range_of 1 1;
  value_names = 1;
  parser = Some p;
  defaults = defaults;
  required = required;
}
rule (flag name) = record (new_rule name) {
  long = Some name;
  action = Some SetTrue;
  range = range_of 0 0;
  parser = Some parser.Bool;
  defaults = codes "false" ∷ [];
  missing = codes "true" ∷ [];
}
rule (several name place least) = record (new_rule name) {
  index = Some place;
  action = Some Append;
  range = range_of least usize_max;
  value_names = 1;
  parser = Some parser.String;
  required = not (least == 0);
}
rule (single name place) = record (new_rule name) {
  index = Some place;
  action = Some Set;
  range = range_of 1 1;
  value_names = 1;
  parser = Some parser.String;
  required = true;
}
rule help = record (new_rule (codes "help")) {
  short = Some 104;
  long = Some (codes "help");
  action = Some Help;
  range = range_of 0 0;
  parser = Some parser.String;
}
rule version = record (new_rule (codes "version")) {
  short = Some 86;
  long = Some (codes "version");
  action = Some Version;
  range = range_of 0 0;
  parser = Some parser.String;
}

abbrev pub Table : Type 0
Table = List Entry

abbrev pub rules : Table → List Rule
rules = map rule

abbrev pub options_of : Table → Options
options_of [] = []
options_of (valued name p defaults required ∷ es) = (name, true) ∷ options_of es
options_of (flag name ∷ es) = (name, false) ∷ options_of es
options_of (several name place least ∷ es) = options_of es
options_of (single name place ∷ es) = options_of es
options_of (help ∷ es) = options_of es
options_of (version ∷ es) = options_of es

abbrev pub least_of : Rule → ℕ
least_of a = (unwrap_or_range a.range).start_inclusive

abbrev pub TakesOne : Rule → Type 0
TakesOne a = (action_of a ≡ Set) × (most_values a ≡ 1) × (least_of a ≡ 1)

abbrev pub TakesNone : Rule → Type 0
TakesNone a = (action_of a ≡ SetTrue) × (most_values a ≡ 0) × (least_of a ≡ 0) × (a.missing ≡ codes "true" ∷ [])

abbrev pub IsHelp : Rule → Type 0
IsHelp a = ((action_of a ≡ Help) ⊎ (action_of a ≡ Version)) × (most_values a ≡ 0) × (least_of a ≡ 0)

-- what is found by a long name, of which the options say this
abbrev pub LongIs : Text → Option Bool → Option Rule → Type 0
LongIs name takes None = takes ≡ None
LongIs name takes (Some a) = IsHelp a ⊎ ((a.id ≡ name) × (((takes ≡ Some true) × TakesOne a) ⊎ ((takes ≡ Some false) × TakesNone a)))

abbrev pub ShortIs : Option Rule → Type 0
ShortIs None = Unit {0}
ShortIs (Some a) = IsHelp a

-- a positional
abbrev pub PlaceIs : Option Rule → Type 0
PlaceIs None = Unit {0}
PlaceIs (Some a) = (a.trailing_var_arg ≡ false) × (TakesOne a ⊎ (action_of a ≡ Append))

pub long_is : (es : Table) (name : Text) → LongIs name (takes_value (options_of es) name) (arg_by_long (rules es) name)
long_is [] name = refl
long_is (valued n p d r ∷ es) name = go (long_is es name) (bytes_eq n name) refl
  where
    go : LongIs name (takes_value (options_of es) name) (arg_by_long (rules es) name) → (b : Bool) → bytes_eq n name ≡ b
        → LongIs name (option_map (λ o. o.1) (cond b (Some (n, true)) (find (λ o. bytes_eq o.0 name) (options_of es))))
        (cond (b || false) (Some (rule (valued n p d r))) (arg_by_long (rules es) name))
    go h true e = inr (same n name e, inl (refl, (refl, refl, refl)))
    go h false e = h
long_is (flag n ∷ es) name = go (long_is es name) (bytes_eq n name) refl
  where
    go : LongIs name (takes_value (options_of es) name) (arg_by_long (rules es) name) → (b : Bool) → bytes_eq n name ≡ b
        → LongIs name (option_map (λ o. o.1) (cond b (Some (n, false)) (find (λ o. bytes_eq o.0 name) (options_of es))))
        (cond (b || false) (Some (rule (flag n))) (arg_by_long (rules es) name))
    go h true e = inr (same n name e, inr (refl, (refl, refl, refl, refl)))
    go h false e = h
long_is (several n place least ∷ es) name = long_is es name
long_is (single n place ∷ es) name = long_is es name
long_is (help ∷ es) name = go (long_is es name) (bytes_eq (codes "help") name)
  where
    go : LongIs name (takes_value (options_of es) name) (arg_by_long (rules es) name) → (b : Bool)
        → LongIs name (takes_value (options_of es) name) (cond (b || false) (Some (rule help)) (arg_by_long (rules es) name))
    go h true = inl (inl refl, refl, refl)
    go h false = h
long_is (version ∷ es) name = go (long_is es name) (bytes_eq (codes "version") name)
  where
    go : LongIs name (takes_value (options_of es) name) (arg_by_long (rules es) name) → (b : Bool)
        → LongIs name (takes_value (options_of es) name) (cond (b || false) (Some (rule version)) (arg_by_long (rules es) name))
    go h true = inl (inr refl, refl, refl)
    go h false = h

pub short_is : (es : Table) (x : ℕ) → ShortIs (arg_by_short (rules es) x)
short_is [] x = tt
short_is (valued n p d r ∷ es) x = short_is es x
short_is (flag n ∷ es) x = short_is es x
short_is (several n place least ∷ es) x = short_is es x
short_is (single n place ∷ es) x = short_is es x
short_is (help ∷ es) x = go (short_is es x) (104 == x)
  where
    go : ShortIs (arg_by_short (rules es) x) → (b : Bool) → ShortIs (cond (b || false) (Some (rule help)) (arg_by_short (rules es) x))
    go h true = (inl refl, refl, refl)
    go h false = h
short_is (version ∷ es) x = go (short_is es x) (86 == x)
  where
    go : ShortIs (arg_by_short (rules es) x) → (b : Bool) → ShortIs (cond (b || false) (Some (rule version)) (arg_by_short (rules es) x))
    go h true = (inr refl, refl, refl)
    go h false = h

pub place_is : (es : Table) (i : ℕ) → PlaceIs (arg_by_index (rules es) i)
place_is [] i = tt
place_is (valued n p d r ∷ es) i = place_is es i
place_is (flag n ∷ es) i = place_is es i
place_is (help ∷ es) i = place_is es i
place_is (version ∷ es) i = place_is es i
place_is (several n place least ∷ es) i = go (place_is es i) (place == i)
  where
    go : PlaceIs (arg_by_index (rules es) i) → (b : Bool) → PlaceIs (cond b (Some (rule (several n place least))) (arg_by_index (rules es) i))
    go h true = (refl, inr refl)
    go h false = h
place_is (single n place ∷ es) i = go (place_is es i) (place == i)
  where
    go : PlaceIs (arg_by_index (rules es) i) → (b : Bool) → PlaceIs (cond b (Some (rule (single n place))) (arg_by_index (rules es) i))
    go h true = (refl, inl (refl, refl, refl))
    go h false = h

-- what holds of all holds of the first that passes
pub of_found : {X : Type 0} (p : X → Bool) (P : X → Type 0) (xs : List X) (x : X) → AllByRecursion P xs → find p xs ≡ Some x → P x
of_found p P [] x all e = absurd (true≢false (sym (ap is_some e)))
of_found p P (y ∷ ys) x all e = go (λ f. of_found p P ys x all.1 f) (p y) e
  where
    go : (find p ys ≡ Some x → P x) → (b : Bool) → cond b (Some y) (find p ys) ≡ Some x → P x
    go h true f = rw (← ap (λ o. unwrap_or o y) f) all.0
    go h false f = h f

pub passes_found : {X : Type 0} (p : X → Bool) (xs : List X) (x : X) → find p xs ≡ Some x → p x ≡ true
passes_found p [] x e = absurd (true≢false (sym (ap is_some e)))
passes_found p (y ∷ ys) x e = go (λ f. passes_found p ys x f) (p y) refl e
  where
    go : (find p ys ≡ Some x → p x ≡ true) → (b : Bool) → p y ≡ b → cond b (Some y) (find p ys) ≡ Some x → p x ≡ true
    go h true is f = ap p (sym (ap (λ o. unwrap_or o y) f)) ∙ is
    go h false is f = h f

-- each is found by its own id
abbrev pub AreKnown : List Rule → Type 0
AreKnown c = AllByRecursion (λ a. arg_by_id c a.id ≡ Some a) c

pub id_found : (c : List Rule) (id : Text) (a : Rule) → arg_by_id c id ≡ Some a → a.id ≡ id
id_found c id a e = same a.id id (passes_found (λ (r : Rule). bytes_eq r.id id) c a e)
