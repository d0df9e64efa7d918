-- A walk of clap over the words of a subcommand: if nothing is at fault, the words are items, and the rows hold what these give.
use Rattle.std.proofs.Common.{◌≡◌, ◌∙◌, ◌==◌, ◌&&◌, ◌||◌, ◌⊎◌, inl, inr, ℕ, Bool, cond, true, false, refl, sym, ap, ap₂, subst, List, [], ◌∷◌, ◌++◌, length, map, suc, Option, Some, None, true≢false, append-nil, append_assoc, arith}
use Rattle.std.specs.Prelude.{codes, drop, encode_utf8, fold, is_some, min, not, nat_lt, option_map, slice_get, unwrap_or, if◌then◌else◌}
use Rattle.std.specs.List.{AllByRecursion}
use Rattle.std.specs.Option.{option_map_or}
use Rattle.std.specs.Str.{bytes_eq, chars}
use Rattle.std.proofs.lemmas.Bool.Decides.{nat_tests}
use Rattle.std.proofs.lemmas.List.{length-append}
use Rattle.clap.specs.Faults.{action_fault, bundle_step_fault, long_fault, option_fault, positional_fault, react_fault, settle_fault, short_fault, step_fault, stray_fault, turn_fault, use_fault, walk_fault, flags_fault}
use Rattle.clap.specs.Kinds.{Kinds, or_else, range_kinds}
use Rattle.clap.specs.Simple.{Shape}
use Rattle.clap.specs.Walk.{after_flag, after_step, attached_value, has_long, takes_values, values_or_missing, long_met, reacted, Held, Row, Rule, Text, Waiting, idle, option, positional, Walk, action_of, arg_by_id, arg_by_index, arg_by_long, arg_by_short, is_multiple, is_pending, most_values, next_position, positional_held, settled, settled_rows, takes_several, to_positional, used, used_by_id, walked}
use Rattle.clap.specs.declared.error.kind.ErrorKind.TheVariants.{DisplayHelp, DisplayVersion, InvalidSubcommand, TooManyValues, UnknownArgument}
use Rattle.clap.specs.declared.builder.action.ArgAction.TheVariants.{Append, Help, Version}
use Rattle.cli_words.specs.Items as items
use Rattle.cli_words.specs.Items.{Item, Options, items_after, name_in, option_given, takes_value, value_in, with_item}
use Rattle.cli_words.proofs.Looks.{LongWord, Look, PlainWord, ShortWord, hyphens, look}
use Rattle.cli_words.proofs.Rows.{if_same, itself, same, values_at}
use Rattle.cli_words.proofs.Tables.{AreKnown, IsHelp, LongIs, PlaceIs, ShortIs, TakesNone, TakesOne, id_found, least_of, of_found}
use Rattle.cli_words.proofs.Uses.{Adds, AreFitting, IsPending, Pending, SettlesTo, held, lacks_value, neither, no_kind, none_used, one_used, settles, some_kind, still}

-- ---- what items give to ids

abbrev pub shown : Option Text → Text
shown None = codes "true"
shown (Some value) = value

abbrev pub placed : Option Rule → Text → Text → List Text
placed None id word = []
placed (Some a) id word = if_same a.id id (word ∷ [])

abbrev pub place_after : Option Rule → ℕ → ℕ
place_after None i = i
place_after (Some a) i = next_position a i

-- an option's value is given to its name, an operand to the positional whose turn it is
abbrev pub given_to : List Rule → ℕ → Text → List Item → List Text
given_to c i id [] = []
given_to c i id (items.option name value ∷ its) = if_same name id (shown value ∷ []) ++ given_to c i id its
given_to c i id (items.operand word ∷ its) = placed (arg_by_index c i) id word ++ given_to c (place_after (arg_by_index c i) i) id its

-- ---- states of the walk

abbrev pub at : List Row → Pending → Waiting → ℕ → Bool → Walk
at rows p w i trailing = record { held = held rows p; waiting = w; position = i; is_trailing = trailing; stopped = None }

abbrev pub waits_for : Waiting → Option Text
waits_for idle = None
waits_for (option id) = Some id
waits_for positional = None

abbrev pub items_left : Options → Bool → Waiting → List Text → Option (List Item)
items_left options true w words = Some (map items.operand words)
items_left options false w words = items_after options (waits_for w) words

-- nothing waits for a value, or an option does that is pending and has none yet
abbrev pub IsAt : List Rule → Options → Bool → Waiting → Pending → Type 0
IsAt c options true w p = IsPending c p
IsAt c options false idle p = IsPending c p
IsAt c options false positional p = IsPending c p
IsAt c options false (option id) p = (a : Rule) × ((p ≡ Some (id, [])) × ((arg_by_id c id ≡ Some a) × (TakesOne a × (takes_value options id ≡ Some true))))

abbrev pub before : List Row → Pending → Text → List Text
before rows p id = values_at id rows ++ still p id

-- each item is an option as the subcommand takes it, or an operand
abbrev pub IsOf : Options → Item → Type 0
IsOf options (items.option name v) = takes_value options name ≡ Some (is_some v)
IsOf options (items.operand word) = Unit {0}

abbrev pub AddsOf : Options → Option Item → Type 0
AddsOf options None = Unit {0}
AddsOf options (Some item) = IsOf options item

-- the words after a state are items, which with what was before give the values of all ids
abbrev pub Ends : List Rule → Options → Bool → Waiting → ℕ → List Row → Pending → List Text → List Row → Type 0
Ends c options trailing w i rows p words ends = (its : List Item) × ((items_left options trailing w words ≡ Some its)
    × (AllByRecursion (IsOf options) its × (AreFitting c ends × ((id : Text) → values_at id ends ≡ before rows p id ++ given_to c i id its))))

-- a hyphen is followed by a character, or nothing
abbrev pub IsText : Text → Type 0
IsText word = (first : ℕ) (rest : Text) → word ≡ 45 ∷ first ∷ rest → is_some (slice_get (chars (first ∷ rest)) 0) ≡ true

abbrev pub added : Option Item → List Item → List Item
added None its = its
added (Some item) its = item ∷ its

-- One word takes one state to another.
pub record Turn (s : Shape) (options : Options) (trailing : Bool) (w : Waiting) (i : ℕ) (rows : List Row) (p : Pending) (word : Text) : Type 0 where
  pub rows_next : List Row
  pub pending_next : Pending
  pub waiting_next : Waiting
  pub place_next : ℕ
  pub trailing_next : Bool
  pub next : walked s.rules [] (at rows p w i trailing) word ≡ at rows_next pending_next waiting_next place_next trailing_next
  pub state : IsAt s.rules options trailing_next waiting_next pending_next
  pub fitting : AreFitting s.rules rows_next
  pub adds : Option Item
  pub is_of : AddsOf options adds
  pub items : (rest : List Text) (its : List Item) → items_left options trailing_next waiting_next rest ≡ Some its
      → items_left options trailing w (word ∷ rest) ≡ Some (added adds its)
  pub values : (id : Text) (its : List Item) → before rows_next pending_next id ++ given_to s.rules place_next id its
      ≡ before rows p id ++ given_to s.rules i id (added adds its)

module _ (s : Shape) (options : Options) (again : s.args_override_self ≡ false)
    (long_is : (name : Text) → LongIs name (takes_value options name) (arg_by_long s.rules name))
    (short_is : (x : ℕ) → ShortIs (arg_by_short s.rules x))
    (place_is : (i : ℕ) → PlaceIs (arg_by_index s.rules i))
    (known : AreKnown s.rules) where
  abbrev c : List Rule
  c = s.rules

  -- ---- an operand

  stray : some_kind (stray_fault s) ≡ true
  stray = go s.is_leaf
    where
      go : (b : Bool) → some_kind (cond b (UnknownArgument ∷ [])
          (UnknownArgument ∷ InvalidSubcommand ∷ [])) ≡ true
      go true = refl
      go false = refl

  -- what is held after an operand
  pub record Placed (a : Rule) (rows : List Row) (p : Pending) (word : Text) : Type 0 where
    pub rows_next : List Row
    pub pending_next : Pending
    pub next : positional_held c a word (held rows p) ≡ held rows_next pending_next
    pub pends : IsPending c pending_next
    pub fitting : AreFitting c rows_next
    pub values : (id : Text) → before rows_next pending_next id ≡ before rows p id ++ if_same a.id id (word ∷ [])

  some_more : (vs : List Text) (word : Text) → length (vs ++ word ∷ []) ≡ 0 → ⊥
  some_more vs word none = absurd (omega (arith, length-append vs (word ∷ []), none))

  first_placed : (a : Rule) (i : ℕ) (rows : List Row) (p : Pending) (word : Text) → arg_by_index c i ≡ Some a → PlaceIs (Some a) → SettlesTo c rows p (settled_rows c p rows)
      → positional_held c a word (held rows p) ≡ held (settled_rows c p rows) (Some (a.id, word ∷ [])) → Placed a rows p word
  first_placed a i rows p word found is settled next = record {
    rows_next = settled_rows c p rows;
    pending_next = Some (a.id, word ∷ []);
    next = next;
    pends = (a, (of_found (λ (r : Rule). option_map_or (λ k. k == i) r.index false) (λ r. arg_by_id c r.id ≡ Some r) c a known found, (λ none. absurd (omega (arith, none)), is.1)));
    fitting = settled.0;
    values = λ id. ap (λ vs. vs ++ if_same a.id id (word ∷ [])) (settled.1 id);
  }

  more_of : (b : Bool) (vs : List Text) (v : Text) (xs : List Text) → xs ++ cond b (vs ++ v ∷ []) [] ≡ (xs ++ cond b vs []) ++ cond b (v ∷ []) []
  more_of true vs v xs = sym (append_assoc xs vs (v ∷ []))
  more_of false vs v xs = sym (append-nil (xs ++ []))

  more_placed : (a : Rule) (rows : List Row) (q : Text × List Text) (word : Text) → bytes_eq q.0 a.id ≡ true → IsPending c (Some q) → AreFitting c rows
      → positional_held c a word (held rows (Some q)) ≡ held rows (Some (q.0, q.1 ++ word ∷ [])) → Placed a rows (Some q) word
  more_placed a rows q word own (r, (found, (some, how))) fitting next = record {
    rows_next = rows;
    pending_next = Some (q.0, q.1 ++ word ∷ []);
    next = next;
    pends = (r, (found, (some_more q.1 word, how)));
    fitting = fitting;
    values = λ id. subst (λ t. values_at id rows ++ if_same q.0 id (q.1 ++ word ∷ []) ≡ (values_at id rows ++ if_same q.0 id q.1) ++ if_same t id (word ∷ [])) (same q.0 a.id own)
        (more_of (bytes_eq q.0 id) q.1 word (values_at id rows));
  }

  place_word : (a : Rule) (i : ℕ) (rows : List Row) (p : Pending) (word : Text) → arg_by_index c i ≡ Some a → PlaceIs (Some a) → IsPending c p → AreFitting c rows
      → positional_fault c false a (held rows p) ≡ [] → Placed a rows p word
  place_word a i rows None word found is pends fitting fault =
      first_placed a i rows None word found is (settles c rows None tt fitting refl) refl
  place_word a i rows (Some q) word found is pends fitting fault = go (bytes_eq q.0 a.id) refl (takes_several a) refl fault
    where
      go : (b : Bool) → bytes_eq q.0 a.id ≡ b → (t : Bool) → takes_several a ≡ t → cond (b && t) [] (settle_fault c false (held rows (Some q))) ≡ [] → Placed a rows (Some q) word
      go true e true f none = more_placed a rows q word e pends fitting (rw (e, f) refl)
      go true e false f none = first_placed a i rows (Some q) word found is (settles c rows (Some q) pends fitting none) (rw (e, f) refl)
      go false e t f none = first_placed a i rows (Some q) word found is (settles c rows (Some q) pends fitting none) (rw e refl)

  either_way : (t m : Bool) (p : Pending) → IsPending c p → IsAt c options t (cond m positional idle) p
  either_way true m p is = is
  either_way false true p is = is
  either_way false false p is = is

  as_before : (t v : Bool) → v ≡ false → (t || v) ≡ t
  as_before true v e = refl
  as_before false v e = e

  operand_turn : (t : Bool) (w : Waiting) (i : ℕ) (rows : List Row) (p : Pending) (word : Text) → IsPending c p → AreFitting c rows
      → walked c [] (at rows p w i t) word ≡ to_positional c (arg_by_index c i) word (at rows p w i t) (held rows p)
      → option_map_or (λ a. positional_fault c false a (held rows p)) (arg_by_index c i) (stray_fault s) ≡ []
      → ((m : Bool) (rest : List Text) (its : List Item) → items_left options t (cond m positional idle) rest ≡ Some its
      → items_left options t w (word ∷ rest) ≡ Some (items.operand word ∷ its))
      → Turn s options t w i rows p word
  operand_turn t w i rows p word pends fitting next fault reads = go (arg_by_index c i) refl (place_is i)
    where
      go : (o : Option Rule) → arg_by_index c i ≡ o → PlaceIs (arg_by_index c i) → Turn s options t w i rows p word
      go None e is = absurd (no_kind (stray_fault s) stray (subst (λ o. option_map_or (λ a. positional_fault c false a (held rows p)) o (stray_fault s) ≡ []) e fault))
      go (Some a) e is =
          let own : PlaceIs (Some a) = subst PlaceIs e is in
          let here = place_word a i rows p word e own pends fitting (subst (λ o. option_map_or (λ a. positional_fault c false a (held rows p)) o (stray_fault s) ≡ []) e fault) in
          record {
            rows_next = here.rows_next;
            pending_next = here.pending_next;
            waiting_next = cond (is_multiple a) positional idle;
            place_next = next_position a i;
            trailing_next = t;
            next = next ∙ ap (λ o. to_positional c o word (at rows p w i t) (held rows p)) e
                ∙ ap₂ (λ (h : Held) (b : Bool). record { held = h; waiting = cond (is_multiple a) positional idle; position = next_position a i; is_trailing = b; stopped = None })
                here.next (as_before t a.trailing_var_arg own.0);
            state = either_way t (is_multiple a) here.pending_next here.pends;
            fitting = here.fitting;
            adds = Some (items.operand word);
            is_of = tt;
            items = reads (is_multiple a);
            values = λ id its. ap (λ vs. vs ++ given_to c (next_position a i) id its) (here.values id)
                ∙ append_assoc (before rows p id) (if_same a.id id (word ∷ [])) (given_to c (next_position a i) id its)
                ∙ ap (λ o. before rows p id ++ (placed o id word ++ given_to c (place_after o i) id its)) (sym e);
          }

  -- ---- one word, if all are operands

  trailing_turn : (w : Waiting) (i : ℕ) (rows : List Row) (p : Pending) (word : Text) → IsPending c p → AreFitting c rows
      → turn_fault s [] (at rows p w i true) word ≡ [] → Turn s options true w i rows p word
  unfolding walked
  trailing_turn w i rows p word pends fitting fault =
      operand_turn true w i rows p word pends fitting refl (rw again at fault) (λ m rest its e. ap (λ o. with_item (items.operand word) o) e)

  -- ---- one word, if nothing waits for a value

  abbrev IsFree : Waiting → Type 0
  IsFree idle = Unit {0}
  IsFree (option id) = ⊥
  IsFree positional = Unit {0}

  free_operand : (w : Waiting) → IsFree w → (i : ℕ) (rows : List Row) (p : Pending) (word : Text) → PlainWord word → IsPending c p → AreFitting c rows
      → turn_fault s [] (at rows p w i false) word ≡ [] → Turn s options false w i rows p word
  unfolding walked
  free_operand (option id) free i rows p word l pends fitting fault = absurd free
  free_operand idle free i rows p word l pends fitting fault =
      operand_turn false idle i rows p word pends fitting (rw (l.no_hyphens, l.long, l.short) refl) (rw (l.no_hyphens, l.long, l.short, again) at fault)
      (reads_operand idle word l)
    where
      reads_operand : (w : Waiting) (word : Text) → PlainWord word → (m : Bool) (rest : List Text) (its : List Item) → items_left options false (cond m positional idle) rest ≡ Some its
          → items_left options false idle (word ∷ rest) ≡ Some (items.operand word ∷ its)
      reads_operand w word l true rest its e = rw l.plain (ap (with_item (items.operand word)) e)
      reads_operand w word l false rest its e = rw l.plain (ap (with_item (items.operand word)) e)
  free_operand positional free i rows p word l pends fitting fault =
      operand_turn false positional i rows p word pends fitting (rw (l.no_hyphens, l.long, l.short) refl) (rw (l.no_hyphens, l.long, l.short, again) at fault)
      (reads_operand idle word l)
    where
      reads_operand : (w : Waiting) (word : Text) → PlainWord word → (m : Bool) (rest : List Text) (its : List Item) → items_left options false (cond m positional idle) rest ≡ Some its
          → items_left options false positional (word ∷ rest) ≡ Some (items.operand word ∷ its)
      reads_operand w word l true rest its e = rw l.plain (ap (with_item (items.operand word)) e)
      reads_operand w word l false rest its e = rw l.plain (ap (with_item (items.operand word)) e)

  free_hyphens : (w : Waiting) → IsFree w → (i : ℕ) (rows : List Row) (p : Pending) → IsPending c p → AreFitting c rows → Turn s options false w i rows p hyphens
  unfolding walked
  free_hyphens (option id) free i rows p pends fitting = absurd free
  free_hyphens idle free i rows p pends fitting = record {
    rows_next = rows;
    pending_next = p;
    waiting_next = idle;
    place_next = i;
    trailing_next = true;
    next = refl;
    state = pends;
    fitting = fitting;
    adds = None;
    is_of = tt;
    items = λ rest its e. e;
    values = λ id its. refl;
  }
  free_hyphens positional free i rows p pends fitting = record {
    rows_next = rows;
    pending_next = p;
    waiting_next = positional;
    place_next = i;
    trailing_next = true;
    next = refl;
    state = pends;
    fitting = fitting;
    adds = None;
    is_of = tt;
    items = λ rest its e. e;
    values = λ id its. refl;
  }

  -- `--NAME` and `--NAME=VALUE`
  long_fine : (w : Waiting) → IsFree w → (i : ℕ) (rows : List Row) (p : Pending) (word : Text) (l : LongWord word) → turn_fault s [] (at rows p w i false) word ≡ []
      → long_fault c false (arg_by_long c (name_in (l.first ∷ l.rest))) (value_in (l.first ∷ l.rest)) (held rows p) ≡ []
  long_fine (option id) free i rows p word l fault = absurd free
  long_fine idle free i rows p word l fault = (neither _ _ (rw (l.no_hyphens, l.long, again) at fault)).0
  long_fine positional free i rows p word l fault = (neither _ _ (rw (l.no_hyphens, l.long, again) at fault)).0

  abbrev long_next : Waiting → ℕ → List Row → Pending → Text → Text → Option Text → Option Rule → Walk
  long_next w i rows p word name v o =
      after_step c word (at rows p w i false) (after_flag c w word (long_met c o v (held rows p)).0 (long_met c o v (held rows p)).1).0
      (after_flag c w word (long_met c o v (held rows p)).0 (long_met c o v (held rows p)).1).1

  long_walks : (w : Waiting) → IsFree w → (i : ℕ) (rows : List Row) (p : Pending) (word : Text) (l : LongWord word)
      → walked c [] (at rows p w i false) word
      ≡ long_next w i rows p word (name_in (l.first ∷ l.rest)) (value_in (l.first ∷ l.rest)) (arg_by_long c (name_in (l.first ∷ l.rest)))
  unfolding walked
  long_walks (option id) free i rows p word l = absurd free
  long_walks idle free i rows p word l = rw (l.no_hyphens, l.long) refl
  long_walks positional free i rows p word l = rw (l.no_hyphens, l.long) refl

  abbrev long_reads : Text → Option Text → List Text → Option (List Item)
  long_reads name v rest = option_given name v (takes_value options name) (λ waiting. items_after options waiting rest)

  reads_long : (w : Waiting) → IsFree w → (word : Text) (l : LongWord word) (rest : List Text)
      → items_left options false w (word ∷ rest) ≡ long_reads (name_in (l.first ∷ l.rest)) (value_in (l.first ∷ l.rest)) rest
  reads_long (option id) free word l rest = absurd free
  reads_long idle free word l rest = rw (l.plain, l.after) refl
  reads_long positional free word l rest = rw (l.plain, l.after) refl

  takes_some : (a : Rule) → TakesOne a → takes_values a ≡ true
  takes_some a one = ap (λ n. not (n == 0)) one.1

  takes_no : (a : Rule) → most_values a ≡ 0 → takes_values a ≡ false
  takes_no a none = ap (λ n. not (n == 0)) none

  valued_fault : (a : Rule) (v : Option Text) (h : Held) → TakesOne a → long_fault c false (Some a) v h ≡ [] → option_fault c false a v h ≡ []
  valued_fault a v h one f =
      subst (λ b. cond b (option_fault c false a v h) (cond (is_some v) (TooManyValues ∷ []) (react_fault c false a [] h)) ≡ []) (takes_some a one) f

  flag_fault : (a : Rule) (v : Option Text) (h : Held) → most_values a ≡ 0 → long_fault c false (Some a) v h ≡ []
      → cond (is_some v) (TooManyValues ∷ []) (react_fault c false a [] h) ≡ []
  flag_fault a v h none f =
      subst (λ b. cond b (option_fault c false a v h) (cond (is_some v) (TooManyValues ∷ []) (react_fault c false a [] h)) ≡ []) (takes_no a none) f

  help_used : (a : Rule) (rows : List Row) → IsHelp a → use_fault false a [] rows ≡ [] → ⊥
  help_used a rows help f =
      let split : (range_kinds (least_of a) (most_values a) 0 ≡ []) × (action_fault (action_of a) false a (values_or_missing a []) rows ≡ []) = neither _ _ f in
      go help.0 split.1
    where
      go : ((action_of a ≡ Help) ⊎ (action_of a ≡ Version)) → action_fault (action_of a) false a (values_or_missing a []) rows ≡ [] → ⊥
      go (inl is) f = no_kind (DisplayHelp ∷ []) refl (subst (λ x. action_fault x false a (values_or_missing a []) rows ≡ []) is f)
      go (inr is) f = no_kind (DisplayVersion ∷ []) refl (subst (λ x. action_fault x false a (values_or_missing a []) rows ≡ []) is f)

  reacts : (a : Rule) (vs : List Text) (h : Held) → react_fault c false a vs h ≡ []
      → (settle_fault c false h ≡ []) × (use_fault false a vs (settled_rows c h.pending h.rows) ≡ [])
  reacts a vs h f = neither _ _ f

  pub helps : (a : Rule) (v : Option Text) (h : Held) → IsHelp a → long_fault c false (Some a) v h ≡ [] → ⊥
  helps a v h help fault = go v (flag_fault a v h help.1 fault)
    where
      go : (v : Option Text) → cond (is_some v) (TooManyValues ∷ []) (react_fault c false a [] h) ≡ [] → ⊥
      go (Some x) f = no_kind (TooManyValues ∷ []) refl f
      go None f = help_used a (settled_rows c h.pending h.rows) help (reacts a [] h f).1

  taken_by : (b : Bool) (xs ys : List Text) → (xs ++ cond b ys []) ≡ (xs ++ cond b [] []) ++ cond b ys []
  taken_by true xs ys = ap (λ zs. zs ++ ys) (sym (append-nil xs))
  taken_by false xs ys = sym (append-nil (xs ++ []))

  no_value : (b : Bool) (xs : List Text) → xs ++ cond b [] [] ≡ xs
  no_value true xs = append-nil xs
  no_value false xs = append-nil xs

  -- an option that is used at once, with these values
  at_once : (w : Waiting) (i : ℕ) (rows : List Row) (p : Pending) (word name : Text) (v : Option Text) (a : Rule) (vs : List Text) → a.id ≡ name → takes_value options name ≡ Some (is_some v)
      → walked c [] (at rows p w i false) word ≡ at (used a vs (settled_rows c p rows)) None idle i false
      → SettlesTo c rows p (settled_rows c p rows) → Adds c (settled_rows c p rows) (used a vs (settled_rows c p rows)) a.id (shown v ∷ [])
      → ((rest : List Text) → items_left options false w (word ∷ rest) ≡ with_item (items.option name v) (items_after options None rest))
      → Turn s options false w i rows p word
  at_once w i rows p word name v a vs is takes next settled adds reads = record {
    rows_next = used a vs (settled_rows c p rows);
    pending_next = None;
    waiting_next = idle;
    place_next = i;
    trailing_next = false;
    next = next;
    state = tt;
    fitting = adds.0;
    adds = Some (items.option name v);
    is_of = takes;
    items = λ rest its e. reads rest ∙ ap (with_item (items.option name v)) e;
    values = λ id its. ap (λ vs. vs ++ given_to c i id its) (append-nil _ ∙ adds.1 id ∙ ap₂ (λ xs t. xs ++ if_same t id (shown v ∷ [])) (settled.1 id) is)
        ∙ append_assoc (before rows p id) (if_same name id (shown v ∷ [])) (given_to c i id its);
  }

  -- an option that waits for its value
  waits : (w : Waiting) (i : ℕ) (rows : List Row) (p : Pending) (word name : Text) (a : Rule) → a.id ≡ name → arg_by_id c a.id ≡ Some a → TakesOne a → takes_value options name ≡ Some true
      → walked c [] (at rows p w i false) word ≡ at (settled_rows c p rows) (Some (a.id, [])) (option a.id) i false
      → SettlesTo c rows p (settled_rows c p rows)
      → ((rest : List Text) → items_left options false w (word ∷ rest) ≡ items_after options (Some name) rest)
      → Turn s options false w i rows p word
  waits w i rows p word name a is own one takes next settled reads = record {
    rows_next = settled_rows c p rows;
    pending_next = Some (a.id, []);
    waiting_next = option a.id;
    place_next = i;
    trailing_next = false;
    next = next;
    state = (a, (refl, (own, (one, ap (takes_value options) is ∙ takes))));
    fitting = settled.0;
    adds = None;
    is_of = tt;
    items = λ rest its e. reads rest ∙ ap (λ t. items_after options (Some t) rest) (sym is) ∙ e;
    values = λ id its. ap (λ vs. vs ++ given_to c i id its) (no_value (bytes_eq a.id id) (values_at id (settled_rows c p rows)) ∙ settled.1 id);
  }

  module _ (w : Waiting) (free : IsFree w) (i : ℕ) (rows : List Row) (p : Pending) (word : Text) (l : LongWord word) (pends : IsPending c p) (fitting : AreFitting c rows) where
    abbrev name : Text
    name = name_in (l.first ∷ l.rest)

    own : (a : Rule) → arg_by_long c name ≡ Some a → arg_by_id c a.id ≡ Some a
    own a e = of_found (λ (r : Rule). not (is_some r.index) && has_long r name) (λ r. arg_by_id c r.id ≡ Some r) c a known e

    with_value : (a : Rule) → arg_by_long c name ≡ Some a → a.id ≡ name → TakesOne a → takes_value options name ≡ Some true → (v : Option Text) → value_in (l.first ∷ l.rest) ≡ v
        → long_fault c false (Some a) v (held rows p) ≡ [] → Turn s options false w i rows p word
    with_value a e is one takes (Some x) has fault =
        let split = reacts a (x ∷ []) (held rows p) (valued_fault a (Some x) (held rows p) one fault) in
        let settled = settles c rows p pends fitting split.0 in
        at_once w i rows p word name (Some x) a (x ∷ []) is takes
        (long_walks w free i rows p word l ∙ ap₂ (λ o v. long_next w i rows p word name v o) e has ∙ rw one.1 refl)
        settled (one_used c a (x ∷ []) (settled_rows c p rows) (own a e) one split.1 settled.0)
        (λ rest. reads_long w free word l rest ∙ ap₂ (λ v t. option_given name v t (λ waiting. items_after options waiting rest)) has takes)
    with_value a e is one takes None has fault =
        let split : settle_fault c false (held rows p) ≡ [] = valued_fault a None (held rows p) one fault in
        waits w i rows p word name a is (own a e) one takes
        (long_walks w free i rows p word l ∙ ap₂ (λ o v. long_next w i rows p word name v o) e has ∙ rw one.1 refl)
        (settles c rows p pends fitting split)
        (λ rest. reads_long w free word l rest ∙ ap₂ (λ v t. option_given name v t (λ waiting. items_after options waiting rest)) has takes)

    without_value : (a : Rule) → arg_by_long c name ≡ Some a → a.id ≡ name → TakesNone a → takes_value options name ≡ Some false → (v : Option Text) → value_in (l.first ∷ l.rest) ≡ v
        → long_fault c false (Some a) v (held rows p) ≡ [] → Turn s options false w i rows p word
    without_value a e is none takes (Some x) has fault = absurd (no_kind (TooManyValues ∷ []) refl (flag_fault a (Some x) (held rows p) none.1 fault))
    without_value a e is none takes None has fault =
        let split = reacts a [] (held rows p) (flag_fault a None (held rows p) none.1 fault) in
        let settled = settles c rows p pends fitting split.0 in
        at_once w i rows p word name None a [] is takes
        (long_walks w free i rows p word l ∙ ap₂ (λ o v. long_next w i rows p word name v o) e has ∙ rw none.1 refl)
        settled (none_used c a (settled_rows c p rows) (own a e) none split.1 settled.0)
        (λ rest. reads_long w free word l rest ∙ ap₂ (λ v t. option_given name v t (λ waiting. items_after options waiting rest)) has takes)

    free_long : turn_fault s [] (at rows p w i false) word ≡ [] → Turn s options false w i rows p word
    free_long fault = go (arg_by_long c name) refl (long_is name) (long_fine w free i rows p word l fault)
      where
        go : (o : Option Rule) → arg_by_long c name ≡ o → LongIs name (takes_value options name) o → long_fault c false o (value_in (l.first ∷ l.rest)) (held rows p) ≡ []
            → Turn s options false w i rows p word
        go None e is f = absurd (no_kind _ refl f)
        go (Some a) e (inl help) f = absurd (helps a (value_in (l.first ∷ l.rest)) (held rows p) help f)
        go (Some a) e (inr (is, inl (takes, one))) f = with_value a e is one takes (value_in (l.first ∷ l.rest)) refl f
        go (Some a) e (inr (is, inr (takes, none))) f = without_value a e is none takes (value_in (l.first ∷ l.rest)) refl f

  -- ---- short options, of which none is taken

  short_faults : (a : Option Rule) → ShortIs a → (rest : Text) (h : Held) (next : Held → Kinds) → short_fault c false a rest h next ≡ [] → ⊥
  short_faults None is rest h next f = no_kind _ refl f
  short_faults (Some a) is rest h next f =
      let used : or_else (react_fault c false a [] h) (next (reacted c a [] h)) ≡ [] =
      subst (λ b. cond b (option_fault c false a (attached_value rest) h) (or_else (react_fault c false a [] h) (next (reacted c a [] h))) ≡ []) (takes_no a is.1) f in
      help_used a (settled_rows c h.pending h.rows) is (reacts a [] h (neither _ _ used).0).1

  char_faults : (o : Option ℕ) → is_some o ≡ true → (flags : Text) (h : Held) (next : Text → ℕ → Held → Kinds) → bundle_step_fault c false o flags 0 h next ≡ [] → ⊥
  char_faults None some flags h next f = absurd (true≢false (sym some))
  char_faults (Some x) some flags h next f =
      short_faults (arg_by_short c x) (short_is x) (drop (length (encode_utf8 x)) flags) h (next (drop (length (encode_utf8 x)) flags) 0) f

  pub bundle_faults : (first : ℕ) (rest : Text) (h : Held) → is_some (slice_get (chars (first ∷ rest)) 0) ≡ true → flags_fault c false (suc (length rest)) (first ∷ rest) 0 h ≡ [] → ⊥
  unfolding flags_fault
  bundle_faults first rest h some f = char_faults (slice_get (chars (first ∷ rest)) 0) some (first ∷ rest) h (flags_fault c false (length rest)) f

  short_dead : (w : Waiting) (i : ℕ) (rows : List Row) (p : Pending) (word : Text) (l : ShortWord word) → IsText word
      → turn_fault s [] (at rows p w i false) word ≡ [] → ⊥
  short_dead idle i rows p word l text fault =
      bundle_faults l.first l.rest (held rows p) (text l.first l.rest l.is) (neither _ _ (rw (l.no_hyphens, l.long, l.short, again) at fault)).0
  short_dead positional i rows p word l text fault =
      bundle_faults l.first l.rest (held rows p) (text l.first l.rest l.is) (neither _ _ (rw (l.no_hyphens, l.long, l.short, again) at fault)).0
  short_dead (option id) i rows p word l text fault =
      bundle_faults l.first l.rest (held rows p) (text l.first l.rest l.is) (neither _ _ (rw (l.no_hyphens, l.long, l.short, again) at fault)).0

  free_turn : (w : Waiting) → IsFree w → (i : ℕ) (rows : List Row) (p : Pending) (word : Text) → IsText word → IsPending c p → AreFitting c rows
      → turn_fault s [] (at rows p w i false) word ≡ [] → Turn s options false w i rows p word
  free_turn w free i rows p word text pends fitting fault = go (look word)
    where
      go : Look word → Turn s options false w i rows p word
      go (inl l) = free_operand w free i rows p word l pends fitting fault
      go (inr (inl l)) = free_long w free i rows p word l pends fitting fault
      go (inr (inr (inl l))) = absurd (short_dead w i rows p word l text fault)
      go (inr (inr (inr is))) = subst (λ word. Turn s options false w i rows p word) (sym is) (free_hyphens w free i rows p pends fitting)

  -- ---- one word, if an option waits for its value

  module _ (id : Text) (i : ℕ) (rows : List Row) (a : Rule) (found : arg_by_id c id ≡ Some a) (one : TakesOne a) where
    abbrev empty : Pending
    empty = Some (id, [])

    unsettled : settle_fault c false (held rows empty) ≡ [] → ⊥
    unsettled = lacks_value c rows id a found one

    long_dead : (o : Option Rule) (v : Option Text) → long_fault c false o v (held rows empty) ≡ [] → ⊥
    long_dead None v f = no_kind (UnknownArgument ∷ []) refl f
    long_dead (Some b) v f = go (takes_values b) v f
      where
        go : (t : Bool) (v : Option Text) → cond t (option_fault c false b v (held rows empty)) (cond (is_some v) (TooManyValues ∷ []) (react_fault c false b [] (held rows empty))) ≡ [] → ⊥
        go true (Some x) f = unsettled (reacts b (x ∷ []) (held rows empty) f).0
        go true None f = unsettled f
        go false (Some x) f = no_kind (TooManyValues ∷ []) refl f
        go false None f = unsettled (reacts b [] (held rows empty) f).0

    id_is : a.id ≡ id
    id_is = id_found c id a found

    counts : nat_lt (cond (bytes_eq id a.id) 1 0) (most_values a) ≡ false
    counts = ap₂ (λ b n. nat_lt (cond b 1 0) n) (ap (bytes_eq id) id_is ∙ itself id) one.1

    value_turn : takes_value options id ≡ Some true → (word : Text) → PlainWord word → AreFitting c rows → Turn s options false (option id) i rows empty word
    unfolding walked
    value_turn takes word l fitting = record {
      rows_next = rows;
      pending_next = Some (id, word ∷ []);
      waiting_next = idle;
      place_next = i;
      trailing_next = false;
      next = rw (l.no_hyphens, l.long, l.short, found) (ap (λ b. at rows (Some (id, word ∷ [])) (cond b (option id) idle) i false) counts);
      state = (a, (found, (λ none. absurd (omega (arith, none)), inl one)));
      fitting = fitting;
      adds = Some (items.option id (Some word));
      is_of = takes;
      items = λ rest its e. rw l.plain (ap (with_item (items.option id (Some word))) e);
      values = λ x its. ap (λ vs. vs ++ given_to c i x its) (taken_by (bytes_eq id x) (values_at x rows) (word ∷ []))
          ∙ append_assoc (before rows empty x) (if_same id x (word ∷ [])) (given_to c i x its);
    }

    -- after `--` it can't have one
    doomed : (w : Waiting) (words : List Text) → walk_fault s [] (at rows empty w i true) words ≡ [] → settle_fault c false (fold (walked c []) (at rows empty w i true) words).held ≡ [] → ⊥
    unfolding walk_fault
    doomed w [] fault last = unsettled last
    doomed w (word ∷ rest) fault last =
        let split : (turn_fault s [] (at rows empty w i true) word ≡ []) × (walk_fault s [] (walked c [] (at rows empty w i true) word) rest ≡ []) = neither _ _ fault in
        go (arg_by_index c i) refl (rw again at split.0)
      where
        alone : (b : Rule) → arg_by_index c i ≡ Some b → bytes_eq id b.id ≡ true → takes_several b ≡ false
        alone b e met =
            let known_b : arg_by_id c b.id ≡ Some b = of_found (λ (r : Rule). option_map_or (λ k. k == i) r.index false) (λ r. arg_by_id c r.id ≡ Some r) c b known e in
            let both : a ≡ b = ap (λ o. unwrap_or o a) (sym found ∙ ap (arg_by_id c) (same id b.id met) ∙ known_b) in
            subst (λ r. takes_several r ≡ false) both (ap₂ (λ l m. not (l == m) || nat_lt 1 l) one.2 one.1)

        placed_dead : (b : Rule) → arg_by_index c i ≡ Some b → (t : Bool) → bytes_eq id b.id ≡ t → cond (t && takes_several b) [] (settle_fault c false (held rows empty)) ≡ [] → ⊥
        placed_dead b e true met f = unsettled (subst (λ x. cond x [] (settle_fault c false (held rows empty)) ≡ []) (alone b e met) f)
        placed_dead b e false met f = unsettled f

        go : (o : Option Rule) → arg_by_index c i ≡ o → option_map_or (λ b. positional_fault c false b (held rows empty)) (arg_by_index c i) (stray_fault s) ≡ [] → ⊥
        go None e f = no_kind (stray_fault s) stray (subst (λ o. option_map_or (λ b. positional_fault c false b (held rows empty)) o (stray_fault s) ≡ []) e f)
        go (Some b) e f = placed_dead b e (bytes_eq id b.id) refl (subst (λ o. option_map_or (λ b. positional_fault c false b (held rows empty)) o (stray_fault s) ≡ []) e f)

  -- ---- all words

  abbrev IsDead : Walk → Text → Type 0
  IsDead w word = (rest : List Text) → walk_fault s [] (walked c [] w word) rest ≡ [] → settle_fault c false (fold (walked c []) (walked c [] w word) rest).held ≡ [] → ⊥

  a_turn : (t : Bool) (w : Waiting) (i : ℕ) (rows : List Row) (p : Pending) (word : Text) → IsText word → IsAt c options t w p → AreFitting c rows
      → turn_fault s [] (at rows p w i t) word ≡ [] → IsDead (at rows p w i t) word ⊎ Turn s options t w i rows p word
  unfolding walked
  a_turn true w i rows p word text state fitting fault = inr (trailing_turn w i rows p word state fitting fault)
  a_turn false idle i rows p word text state fitting fault = inr (free_turn idle tt i rows p word text state fitting fault)
  a_turn false positional i rows p word text state fitting fault = inr (free_turn positional tt i rows p word text state fitting fault)
  a_turn false (option id) i rows p word text (a, (is, (found, (one, takes)))) fitting fault =
      subst (λ p. IsDead (at rows p (option id) i false) word ⊎ Turn s options false (option id) i rows p word) (sym is)
      (go (look word) (subst (λ p. turn_fault s [] (at rows p (option id) i false) word ≡ []) is fault))
    where
      go : Look word → turn_fault s [] (at rows (Some (id, [])) (option id) i false) word ≡ []
          → IsDead (at rows (Some (id, [])) (option id) i false) word ⊎ Turn s options false (option id) i rows (Some (id, [])) word
      go (inl l) f = inr (value_turn id i rows a found one takes word l fitting)
      go (inr (inl l)) f = absurd (long_dead id i rows a found one (arg_by_long c (name_in (l.first ∷ l.rest))) (value_in (l.first ∷ l.rest))
          (neither _ _ (rw (l.no_hyphens, l.long, again) at f)).0)
      go (inr (inr (inl l))) f = absurd (short_dead (option id) i rows (Some (id, [])) word l text f)
      go (inr (inr (inr is))) f = inl (subst (λ word. IsDead (at rows (Some (id, [])) (option id) i false) word) (sym is) (λ rest. doomed id i rows a found one (option id) rest))

  abbrev ending : Walk → List Text → Held
  ending w words = (fold (walked c []) w words).held

  all_of_them : (adds : Option Item) → AddsOf options adds → (its : List Item) → AllByRecursion (IsOf options) its → AllByRecursion (IsOf options) (added adds its)
  all_of_them None is its are = are
  all_of_them (Some item) is its are = (is, are)

  go_on : (t : Bool) (w : Waiting) (i : ℕ) (rows : List Row) (p : Pending) (word : Text) (rest : List Text) (ends : List Row) (turn : Turn s options t w i rows p word)
      → Ends c options turn.trailing_next turn.waiting_next turn.place_next turn.rows_next turn.pending_next rest ends → Ends c options t w i rows p (word ∷ rest) ends
  go_on t w i rows p word rest ends turn (its, (reads, (are_of, (fitting, values)))) =
      (added turn.adds its, (turn.items rest its reads, (all_of_them turn.adds turn.is_of its are_of, (fitting, λ id. values id ∙ turn.values id its))))

  ends_here : (t : Bool) (w : Waiting) (i : ℕ) (rows : List Row) (p : Pending) → items_left options t w [] ≡ Some [] → IsPending c p → AreFitting c rows
      → settle_fault c false (held rows p) ≡ [] → Ends c options t w i rows p [] (settled_rows c p rows)
  ends_here t w i rows p reads pends fitting fault =
      let settled = settles c rows p pends fitting fault in
      ([], (reads, (tt, (settled.0, λ id. settled.1 id ∙ sym (append-nil (before rows p id))))))

  pub walks : (words : List Text) → AllByRecursion IsText words → (t : Bool) (w : Waiting) (i : ℕ) (rows : List Row) (p : Pending) → IsAt c options t w p → AreFitting c rows
      → walk_fault s [] (at rows p w i t) words ≡ [] → settle_fault c false (ending (at rows p w i t) words) ≡ []
      → Ends c options t w i rows p words (settled c (ending (at rows p w i t) words)).rows
  unfolding walk_fault
  walks [] texts true w i rows p state fitting fault last = ends_here true w i rows p refl state fitting last
  walks [] texts false idle i rows p state fitting fault last = ends_here false idle i rows p refl state fitting last
  walks [] texts false positional i rows p state fitting fault last = ends_here false positional i rows p refl state fitting last
  walks [] texts false (option id) i rows p (a, (is, (found, (one, takes)))) fitting fault last =
      absurd (lacks_value c rows id a found one (subst (λ p. settle_fault c false (held rows p) ≡ []) is last))
  walks (word ∷ rest) texts t w i rows p state fitting fault last =
      let split : (turn_fault s [] (at rows p w i t) word ≡ []) × (walk_fault s [] (walked c [] (at rows p w i t) word) rest ≡ []) = neither _ _ fault in
      elim (a_turn t w i rows p word texts.0 state fitting split.0) [
        | inl dead ↦ absurd (dead rest split.1 last)
        | inr turn ↦
            subst (λ after. Ends c options t w i rows p (word ∷ rest) (settled c (ending after rest)).rows) (sym turn.next)
            (go_on t w i rows p word rest _ turn
            (walks rest texts.1 turn.trailing_next turn.waiting_next turn.place_next turn.rows_next turn.pending_next turn.state turn.fitting
            (subst (λ after. walk_fault s [] after rest ≡ []) turn.next split.1) (subst (λ after. settle_fault c false (ending after rest) ≡ []) turn.next last)))
      ]
