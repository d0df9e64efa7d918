-- What the rows of a subcommand hold of its items.
use Rattle.std.proofs.Common.{◌≡◌, ◌∙◌, ◌&&◌, ◌||◌, ◌⊎◌, inl, inr, ℕ, Bool, cond, true, false, refl, sym, ap, ap₂, subst, List, [], ◌∷◌, ◌++◌, length, map, Option, Some, None, true≢false}
use Rattle.std.specs.Prelude.{codes, find, fold, is_some, not, option_and_then, option_map, slice_get, unwrap_or}
use Rattle.std.specs.List.{AllByRecursion, list_all}
use Rattle.std.specs.Option.{option_map_or}
use Rattle.std.specs.Str.{bytes_eq}
use Rattle.clap.specs.Faults.{check_fault, defaults_fault, level_fault, settle_fault, walk_fault}
use Rattle.clap.specs.Kinds.{or_else}
use Rattle.clap.specs.Simple.{Shape}
use Rattle.clap.specs.Values.{read_as}
use Rattle.clap.specs.Walk.{Row, Rule, Text, action_of, all_of, arg_by_id, arg_by_index, finished, first_of, has_row, idle, nothing_held, one_of, row_text, rows_after, settled, walk, walk_from, with_default}
use Rattle.clap.specs.declared.builder.action.ArgAction.TheVariants.{Set, SetTrue}
use Rattle.clap.specs.declared.builder.value_parser.Reading.{Reading}
use Rattle.clap.specs.declared.builder.value_parser.Reading.TheVariants as reading
use Rattle.cli_words.specs.Items as items
use Rattle.cli_words.specs.Items.{Item, Options, given, items_after, operands, takes_value}
use Rattle.cli_words.specs.Matched.{IsFirst, IsSet}
use Rattle.cli_words.proofs.Finish.{defaulted, finishes, row_at}
use Rattle.cli_words.proofs.Rows.{if_same, no_values, same, values_at}
use Rattle.cli_words.proofs.Tables.{AreKnown, Table, long_is, options_of, passes_found, place_is, rules, short_is}
use Rattle.cli_words.proofs.Uses.{AreFitting, Fits, FitsAction, neither}
use Rattle.cli_words.proofs.Walks.{IsOf, IsText, at, given_to, place_after, placed, shown, walks}

-- ---- one row

its_row : (id : Text) (rows : List Row) → has_row id rows ≡ true → (r : Row) × ((row_at id rows ≡ Some r) × (r.values ≡ values_at id rows))
its_row id [] e = absurd (true≢false (sym e))
its_row id (r ∷ rs) e = go (bytes_eq r.id id) e (λ f. its_row id rs f)
  where
    go : (b : Bool) → (b || has_row id rs) ≡ true → (has_row id rs ≡ true → (x : Row) × ((row_at id rs ≡ Some x) × (x.values ≡ values_at id rs)))
        → (x : Row) × ((cond b (Some r) (row_at id rs) ≡ Some x) × (x.values ≡ cond b r.values (values_at id rs)))
    go true f rest = (r, (refl, refl))
    go false f rest = rest f

-- ---- uses

-- the option's name is no operand's
abbrev pub NoPlace : List Rule → Text → Type 0
NoPlace c id = list_all (λ (a : Rule). not (is_some a.index && bytes_eq a.id id)) c ≡ true

pub all_found : {X : Type 0} (p q : X → Bool) (xs : List X) (x : X) → list_all q xs ≡ true → find p xs ≡ Some x → q x ≡ true
all_found p q [] x all e = absurd (true≢false (sym (ap is_some e)))
all_found p q (y ∷ ys) x all e = go (p y) (q y) refl all e (λ a f. all_found p q ys x a f)
  where
    go : (b d : Bool) → q y ≡ d → (d && list_all q ys) ≡ true → cond b (Some y) (find p ys) ≡ Some x → (list_all q ys ≡ true → find p ys ≡ Some x → q x ≡ true) → q x ≡ true
    go b false is all f rest = absurd (true≢false (sym all))
    go true true is all f rest = ap q (sym (ap (λ o. unwrap_or o y) f)) ∙ is
    go false true is all f rest = rest all f

indexed : (o : Option ℕ) (i : ℕ) → option_map_or (λ k. Rattle.std.proofs.Common.nat_eq k i) o false ≡ true → is_some o ≡ true
indexed None i e = absurd (true≢false (sym e))
indexed (Some k) i e = refl

not_placed : (c : List Rule) (id : Text) → NoPlace c id → (i : ℕ) (word : Text) → placed (arg_by_index c i) id word ≡ []
not_placed c id none i word = go (arg_by_index c i) refl
  where
    go : (o : Option Rule) → arg_by_index c i ≡ o → placed o id word ≡ []
    go None e = refl
    go (Some a) e =
        let test = all_found (λ (r : Rule). option_map_or (λ k. Rattle.std.proofs.Common.nat_eq k i) r.index false) (λ (r : Rule). not (is_some r.index && bytes_eq r.id id)) c a none e in
        let has = indexed a.index i (passes_found (λ (r : Rule). option_map_or (λ k. Rattle.std.proofs.Common.nat_eq k i) r.index false) c a e) in
        other (bytes_eq a.id id) (ap (λ b. not (b && bytes_eq a.id id)) (sym has) ∙ test)
      where
        other : (b : Bool) → not (true && b) ≡ true → cond b (word ∷ []) [] ≡ []
        other true f = absurd (true≢false (sym f))
        other false f = refl

uses_shown : (c : List Rule) (id : Text) → NoPlace c id → (i : ℕ) (its : List Item) → given_to c i id its ≡ map shown (given id its)
uses_shown c id none i [] = refl
uses_shown c id none i (items.option name v ∷ its) = go (bytes_eq name id) (uses_shown c id none i its)
  where
    go : (b : Bool) → given_to c i id its ≡ map shown (given id its)
        → (cond b (shown v ∷ []) [] ++ given_to c i id its) ≡ map shown (cond b (v ∷ given id its) (given id its))
    go true e = ap (λ vs. shown v ∷ vs) e
    go false e = e
uses_shown c id none i (items.operand word ∷ its) =
    ap (λ vs. vs ++ given_to c (place_after (arg_by_index c i) i) id its) (not_placed c id none i word) ∙ uses_shown c id none (place_after (arg_by_index c i) i) its

uses_typed : (options : Options) (id : Text) (b : Bool) → takes_value options id ≡ Some b → (its : List Item) → AllByRecursion (IsOf options) its
    → AllByRecursion (λ (v : Option Text). is_some v ≡ b) (given id its)
uses_typed options id b takes [] are = tt
uses_typed options id b takes (items.operand word ∷ its) are = uses_typed options id b takes its are.1
uses_typed options id b takes (items.option name v ∷ its) are = go (bytes_eq name id) refl (uses_typed options id b takes its are.1)
  where
    go : (m : Bool) → bytes_eq name id ≡ m → AllByRecursion (λ (v : Option Text). is_some v ≡ b) (given id its)
        → AllByRecursion (λ (v : Option Text). is_some v ≡ b) (cond m (v ∷ given id its) (given id its))
    go true e rest = (ap (λ o. unwrap_or o b) (sym are.0 ∙ ap (takes_value options) (same name id e) ∙ takes), rest)
    go false e rest = rest

none_shown : (uses : List (Option Text)) → map shown uses ≡ [] → uses ≡ []
none_shown [] e = refl
none_shown (v ∷ vs) e = absurd (true≢false (ap filled e))
  where
    filled : List Text → Bool
    filled [] = false
    filled (x ∷ xs) = true

one_shown : (uses : List (Option Text)) (v : Text) → AllByRecursion (λ (u : Option Text). is_some u ≡ true) uses → map shown uses ≡ v ∷ [] → uses ≡ Some v ∷ []
one_shown [] v are e = absurd (true≢false (sym (ap (λ (xs : List Text). not (Rattle.std.proofs.Common.nat_eq (length xs) 0)) e)))
one_shown (None ∷ us) v are e = absurd (true≢false (sym are.0))
one_shown (Some u ∷ us) v are e = ap₂ (λ x xs. Some x ∷ xs) (ap first e) (none_shown us (ap rest e))
  where
    first : List Text → Text
    first [] = []
    first (x ∷ xs) = x

    rest : List Text → List Text
    rest [] = []
    rest (x ∷ xs) = xs

one_flag : (uses : List (Option Text)) (v : Text) → AllByRecursion (λ (u : Option Text). is_some u ≡ false) uses → map shown uses ≡ v ∷ [] → uses ≡ None ∷ []
one_flag [] v are e = absurd (true≢false (sym (ap (λ (xs : List Text). not (Rattle.std.proofs.Common.nat_eq (length xs) 0)) e)))
one_flag (Some u ∷ us) v are e = absurd (true≢false are.0)
one_flag (None ∷ us) v are e = ap (λ xs. None ∷ xs) (none_shown us (ap rest e))
  where
    rest : List Text → List Text
    rest [] = []
    rest (x ∷ xs) = xs

-- ---- what is read of rows after defaults

-- the rows before and after defaults, of these items
pub record AreRead (c : List Rule) (options : Options) (its : List Item) (before after : List Row) : Type 0 where
  pub are_of : AllByRecursion (IsOf options) its
  pub fitting : AreFitting c before
  pub values : (id : Text) → values_at id before ≡ given_to c 1 id its
  pub finished : (id : Text) → row_at id after ≡ cond (has_row id before) (row_at id before) (defaulted id c)

module _ (c : List Rule) (options : Options) (its : List Item) (before after : List Row) (read : AreRead c options its before after) (id : Text) where
  fits_if : (a : Rule) → arg_by_id c id ≡ Some a → has_row id before ≡ true → FitsAction (action_of a) (values_at id before)
  fits_if a found has = subst (λ o. Fits o (values_at id before)) found (read.fitting id has)

  first_in : Option Row → Option Text
  first_in o = option_and_then (λ (r : Row). slice_get r.values 0) o

  first_if : (v : Text) → has_row id before ≡ true → values_at id before ≡ v ∷ [] → first_of id after ≡ Some v
  first_if v has is =
      let row = its_row id before has in
      ap (option_and_then (λ (r : Row). slice_get r.values 0)) (read.finished id ∙ ap (λ b. cond b (row_at id before) (defaulted id c)) has ∙ row.1.0)
      ∙ ap (λ vs. slice_get vs 0) (row.1.1 ∙ is)

  -- an option with a value
  pub value_read : (a : Rule) → arg_by_id c id ≡ Some a → action_of a ≡ Set → NoPlace c id → takes_value options id ≡ Some true
      → (default : Option Text) → option_and_then (λ (r : Row). slice_get r.values 0) (defaulted id c) ≡ default → IsFirst (given id its) default (first_of id after)
  value_read a found sets none takes default is = go (has_row id before) refl
    where
      go : (b : Bool) → has_row id before ≡ b → IsFirst (given id its) default (first_of id after)
      go true e =
          let one = subst (λ x. FitsAction x (values_at id before)) sets (fits_if a found e) in
          inr (
            one.0,
            (
              one_shown (given id its) one.0 (uses_typed options id true takes its read.are_of)
                  (sym (uses_shown c id none 1 its) ∙ sym (read.values id) ∙ one.1),
              first_if one.0 e one.1,
            ),
          )
      go false e =
          inl (
            none_shown (given id its) (sym (uses_shown c id none 1 its) ∙ sym (read.values id) ∙ no_values id before e),
            ap (option_and_then (λ (r : Row). slice_get r.values 0)) (read.finished id ∙ ap (λ b. cond b (row_at id before) (defaulted id c)) e) ∙ is,
          )

  as_written : (how : Reading) → read_as how (codes "true") ≡ codes "true"
  as_written reading.AsWritten = refl
  as_written reading.WithoutMinus = refl
  as_written reading.Boolish = refl
  as_written reading.Falsey = refl

  -- an option without one
  pub flag_read : (a : Rule) → arg_by_id c id ≡ Some a → action_of a ≡ SetTrue → NoPlace c id → takes_value options id ≡ Some false
      → option_and_then row_text (defaulted id c) ≡ Some (codes "false") → IsSet (given id its) (one_of id after)
  flag_read a found sets none takes is = go (has_row id before) refl
    where
      go : (b : Bool) → has_row id before ≡ b → IsSet (given id its) (one_of id after)
      go true e =
          let one : values_at id before ≡ codes "true" ∷ [] = subst (λ x. FitsAction x (values_at id before)) sets (fits_if a found e) in
          let row = its_row id before e in
          inr (
            one_flag (given id its) (codes "true") (uses_typed options id false takes its read.are_of)
                (sym (uses_shown c id none 1 its) ∙ sym (read.values id) ∙ one),
            ap (option_and_then row_text) (read.finished id ∙ ap (λ b. cond b (row_at id before) (defaulted id c)) e ∙ row.1.0)
                ∙ ap (λ vs. option_map (read_as row.0.reading) (slice_get vs 0)) (row.1.1 ∙ one) ∙ ap Some (as_written row.0.reading),
          )
      go false e =
          inl (
            none_shown (given id its) (sym (uses_shown c id none 1 its) ∙ sym (read.values id) ∙ no_values id before e),
            ap (option_and_then row_text) (read.finished id ∙ ap (λ b. cond b (row_at id before) (defaulted id c)) e) ∙ is,
          )

  operands_given : takes_value options id ≡ None → ((word : Text) → placed (arg_by_index c 1) id word ≡ word ∷ []) → place_after (arg_by_index c 1) 1 ≡ 1
      → (its : List Item) → AllByRecursion (IsOf options) its → given_to c 1 id its ≡ operands its
  operands_given takes at_one stays [] are = refl
  operands_given takes at_one stays (items.operand word ∷ its) are =
      ap₂ (λ vs i. vs ++ given_to c i id its) (at_one word) stays ∙ ap (λ vs. word ∷ vs) (operands_given takes at_one stays its are.1)
  operands_given takes at_one stays (items.option name v ∷ its) are = go (bytes_eq name id) refl (operands_given takes at_one stays its are.1)
    where
      go : (b : Bool) → bytes_eq name id ≡ b → given_to c 1 id its ≡ operands its → (cond b (shown v ∷ []) [] ++ given_to c 1 id its) ≡ operands its
      go true e rest = absurd (true≢false (ap is_some (sym are.0 ∙ ap (takes_value options) (same name id e) ∙ takes)))
      go false e rest = rest

  -- operands, if one positional takes them all
  pub operands_read : takes_value options id ≡ None → ((word : Text) → placed (arg_by_index c 1) id word ≡ word ∷ []) → place_after (arg_by_index c 1) 1 ≡ 1
      → defaulted id c ≡ None → unwrap_or (all_of id after) [] ≡ operands its
  operands_read takes at_one stays is = go (has_row id before) refl
    where
      all : values_at id before ≡ operands its
      all = read.values id ∙ operands_given takes at_one stays its read.are_of

      go : (b : Bool) → has_row id before ≡ b → unwrap_or (all_of id after) [] ≡ operands its
      go true e =
          let row = its_row id before e in
          ap (λ o. unwrap_or (option_map (λ (r : Row). r.values) o) []) (read.finished id ∙ ap (λ b. cond b (row_at id before) (defaulted id c)) e ∙ row.1.0) ∙ row.1.1 ∙ all
      go false e =
          ap (λ o. unwrap_or (option_map (λ (r : Row). r.values) o) []) (read.finished id ∙ ap (λ b. cond b (row_at id before) (defaulted id c)) e ∙ is)
          ∙ sym (no_values id before e) ∙ all

-- ---- all words of a subcommand

-- the words are items, and the rows hold them
pub record Reads (c : List Rule) (options : Options) (words : List Text) (after : List Row) : Type 0 where
  pub items : List Item
  pub are_items : items_after options None words ≡ Some items
  pub before : List Row
  pub read : AreRead c options items before after

reads_at : (es : Table) (s : Shape) → (record s { rules = rules es }).args_override_self ≡ false → AreKnown (rules es) → (words : List Text) → AllByRecursion IsText words
    → level_fault (record s { rules = rules es }) [] nothing_held words false [] ≡ [] → Reads (rules es) (options_of es) words (rows_after (rules es) [] words)
reads_at es s again known words texts fault =
    let own : Shape = record s { rules = rules es } in
    let end = walk (rules es) [] nothing_held words in
    let split : (walk_fault own [] (walk_from nothing_held) words ≡ [])
    × (or_else (settle_fault (rules es) own.args_override_self end.held) (or_else (defaults_fault (settled (rules es) end.held).rows (rules es)) (check_fault own (finished (rules es) end.held) false)) ≡ [])
    = neither _ _ fault in
    let settles : (settle_fault (rules es) own.args_override_self end.held ≡ [])
    × (or_else (defaults_fault (settled (rules es) end.held).rows (rules es)) (check_fault own (finished (rules es) end.held) false) ≡ []) = neither _ _ split.1 in
    let last : settle_fault (rules es) false end.held ≡ [] = subst (λ b. settle_fault (rules es) b end.held ≡ []) again settles.0 in
    let ends = walks own (options_of es) again (long_is es) (short_is es) (place_is es) known words texts false idle 1 [] None tt (λ id has. absurd (true≢false (sym has))) split.0 last in
    record {
      items = ends.0;
      are_items = ends.1.0;
      before = (settled (rules es) end.held).rows;
      read = record {
        are_of = ends.1.1.0;
        fitting = ends.1.1.1.0;
        values = ends.1.1.1.1;
        finished = λ id. finishes id (rules es) (settled (rules es) end.held).rows;
      };
    }

pub reads_level : (es : Table) (s : Shape) → s.rules ≡ rules es → s.args_override_self ≡ false → AreKnown (rules es) → (words : List Text) → AllByRecursion IsText words
    → level_fault s [] nothing_held words false [] ≡ [] → Reads (rules es) (options_of es) words (rows_after s.rules [] words)
reads_level es s is again known words texts fault =
    let whole : s ≡ record s { rules = rules es } = ap (λ r. record s { rules = r }) is in
    subst (λ c. Reads (rules es) (options_of es) words (rows_after c [] words)) (sym is)
    (reads_at es s again known words texts (subst (λ (x : Shape). level_fault x [] nothing_held words false [] ≡ []) whole fault))
