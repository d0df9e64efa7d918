-- The words before a subcommand's: clap takes none but the name of one.
use Rattle.std.proofs.Common.{◌≡◌, ◌∙◌, ◌==◌, ◌&&◌, ◌||◌, ◌⊎◌, inl, inr, ℕ, Bool, cond, true, false, refl, sym, ap, ap₂, subst, List, [], ◌∷◌, ◌++◌, length, suc, Option, Some, None, true≢false, append-nil, append_assoc, arith}
use Rattle.std.specs.Prelude.{codes, drop, find, fold, is_some, option_and_then, option_map, slice_get, unwrap_or}
use Rattle.std.specs.List.{AllByRecursion, list_all, list_any}
use Rattle.std.specs.Option.{option_map_or}
use Rattle.std.specs.Str.{bytes_eq, chars}
use Rattle.std.proofs.lemmas.Bool.Decides.{nat_tests}
use Rattle.clap.specs.Faults.{built_fault, check_fault, defaults_fault, entered_fault, level_fault, long_fault, settle_fault, stray_fault, turn_fault, walk_fault}
use Rattle.clap.specs.Kinds.{Kinds, or_else}
use Rattle.clap.specs.Simple.{App, Shape, entered, label_of, names_of, new_shape, rows_at}
use Rattle.clap.specs.Walk.{Held, Names, Row, Rule, Text, Waiting, Walk, answers_to, arg_by_id, arg_by_index, arg_by_long, arg_by_short, finished, idle, is_empty, nothing_held, rows_after, settled, stop_after, subcommand_met, walk, walk_from, walked}
use Rattle.clap.specs.declared.error.kind.ErrorKind.TheVariants.{UnknownArgument}
use Rattle.clap.proofs.WalkLemmas.{find-map}
use Rattle.cli_words.specs.Items.{name_in, value_in}
use Rattle.cli_words.proofs.Levels.{all_found}
use Rattle.cli_words.proofs.Rows.{same}
use Rattle.cli_words.proofs.Looks.{LongWord, Look, PlainWord, ShortWord, hyphens, look}
use Rattle.cli_words.proofs.Tables.{AreKnown, LongIs, Table, help, long_is, options_of, passes_found, place_is, rules, short_is, version}
use Rattle.cli_words.proofs.Uses.{neither, no_kind, some_kind}
use Rattle.cli_words.proofs.Walks.{IsText, at, bundle_faults, helps}

abbrev pub flags : Table
flags = help ∷ version ∷ []

-- the walk from a subcommand's name on only collects words
collects : (c : List Rule) (names : Names) (w : Walk) (name : Text) (met rest : List Text)
    → (fold (walked c names) (record w { stopped = Some (name, met) }) rest).stopped ≡ Some (name, met ++ rest)
unfolding walked
collects c names w name met [] = ap (λ ws. Some (name, ws)) (sym (append-nil met))
collects c names w name met (word ∷ rest) =
    collects c names w name (met ++ word ∷ []) rest ∙ ap (λ ws. Some (name, ws)) (append_assoc met (word ∷ []) rest)

-- the program itself, as clap has it once it is built
abbrev pub top : Shape
top = record (new_shape (codes "fabcommit")) {
  rules = rules flags;
  is_leaf = false;
  has_version = true;
  subcommand_required = true;
  is_built = true;
}

known_flags : AreKnown (rules flags)
known_flags = (refl, (refl, tt))

abbrev pub app_with : List Shape → App
app_with subs = record { top = top; subs = subs }

module _ (subs : List Shape) (plain : list_all (λ (s : Shape). is_empty s.aliases) subs ≡ true) where
  abbrev names : Names
  names = names_of (app_with subs)

  unmet : (rows : List Row) → some_kind (check_fault top rows false) ≡ true
  unmet rows = refl

  abbrev start : Walk
  start = walk_from nothing_held

  -- a walk that meets no subcommand is at fault
  never_ends : (words : List Text) → (fold (walked (rules flags) names) start words).stopped ≡ None → built_fault (app_with subs) nothing_held words ≡ [] → ⊥
  never_ends words none fault =
      let end : Walk = fold (walked (rules flags) names) start words in
      let rest = neither (walk_fault top names start words) _ fault in
      let later = neither (entered_fault (app_with subs) end.stopped) _ rest.1 in
      let settled_at = neither (settle_fault (rules flags) false end.held) _ later.1 in
      let checked = neither (defaults_fault (settled (rules flags) end.held).rows (rules flags)) _ settled_at.1 in
      let last : check_fault top (finished (rules flags) end.held) (is_some (entered (app_with subs) end.stopped)) ≡ [] = checked.1 in
      no_kind _ (unmet (finished (rules flags) end.held))
      (subst (λ o. check_fault top (finished (rules flags) end.held) (is_some (entered (app_with subs) o)) ≡ []) none last)

  first_turn : (word : Text) (rest : List Text) → built_fault (app_with subs) nothing_held (word ∷ rest) ≡ []
      → (turn_fault top names start word ≡ []) × (walk_fault top names (walked (rules flags) names start word) rest ≡ [])
  unfolding walk_fault
  first_turn word rest fault = neither _ _ (neither (walk_fault top names start (word ∷ rest)) _ fault).0

  stray_top : some_kind (stray_fault top) ≡ true
  stray_top = refl

  abbrev Unmet : Text → Type 0
  Unmet word = find (answers_to word) names ≡ None

  plain_dead : (word : Text) → Unmet word → PlainWord word → turn_fault top names start word ≡ [] → ⊥
  plain_dead word e l fault = no_kind _ stray_top (rw (e, l.no_hyphens, l.long, l.short) at fault)

  long_top : (name : Text) (v : Option Text) (h : Held) → long_fault (rules flags) false (arg_by_long (rules flags) name) v h ≡ [] → ⊥
  long_top name v h fault = go (arg_by_long (rules flags) name) (long_is flags name) fault
    where
      go : (o : Option Rule) → LongIs name None o → long_fault (rules flags) false o v h ≡ [] → ⊥
      go None is f = no_kind (UnknownArgument ∷ []) refl f
      go (Some a) (inl asks) f = helps top [] refl (long_is flags) (short_is flags) (place_is flags) known_flags a v h asks f
      go (Some a) (inr (is, inl (takes, one))) f = true≢false (sym (ap is_some takes))
      go (Some a) (inr (is, inr (takes, none))) f = true≢false (sym (ap is_some takes))

  long_dead : (word : Text) → Unmet word → (l : LongWord word) → turn_fault top names start word ≡ [] → ⊥
  long_dead word e l fault =
      long_top (name_in (l.first ∷ l.rest)) (value_in (l.first ∷ l.rest)) nothing_held (neither _ _ (rw (e, l.no_hyphens, l.long) at fault)).0

  short_dead : (word : Text) → IsText word → Unmet word → (l : ShortWord word) → turn_fault top names start word ≡ [] → ⊥
  short_dead word text e l fault =
      bundle_faults top [] refl (long_is flags) (short_is flags) (place_is flags) known_flags l.first l.rest nothing_held (text l.first l.rest l.is)
      (neither _ _ (rw (e, l.no_hyphens, l.long, l.short) at fault)).0

  hyphens_walk : Unmet hyphens → walked (rules flags) names start hyphens ≡ at [] None idle 1 true
  unfolding walked
  hyphens_walk e = rw e refl

  trailing_dead : (words : List Text) → walk_fault top names (at [] None idle 1 true) words ≡ [] → words ≡ []
  unfolding walk_fault
  trailing_dead [] fault = refl
  trailing_dead (word ∷ rest) fault =
      let turn : turn_fault top names (at [] None idle 1 true) word ≡ [] =
      (neither (turn_fault top names (at [] None idle 1 true) word) (walk_fault top names (walked (rules flags) names (at [] None idle 1 true) word) rest) fault).0 in
      absurd (no_kind _ stray_top turn)

  no_word_dead : (word : Text) (rest : List Text) → IsText word → Unmet word → built_fault (app_with subs) nothing_held (word ∷ rest) ≡ [] → ⊥
  no_word_dead word rest text e fault = go (look word)
    where
      turn : (turn_fault top names start word ≡ []) × (walk_fault top names (walked (rules flags) names start word) rest ≡ [])
      turn = first_turn word rest fault

      dashed : (word : Text) → word ≡ hyphens → Unmet word → walk_fault top names (walked (rules flags) names start word) rest ≡ []
          → built_fault (app_with subs) nothing_held (word ∷ rest) ≡ [] → ⊥
      dashed word is e f fault =
          let next : walked (rules flags) names start word ≡ at [] None idle 1 true =
          ap (walked (rules flags) names start) is ∙ hyphens_walk (ap (λ t. find (answers_to t) names) (sym is) ∙ e) in
          let none : rest ≡ [] = trailing_dead rest (subst (λ w. walk_fault top names w rest ≡ []) next f) in
          never_ends (word ∷ rest) (ap₂ (λ w ws. (fold (walked (rules flags) names) w ws).stopped) next none) fault

      go : Look word → ⊥
      go (inl l) = plain_dead word e l turn.0
      go (inr (inl l)) = long_dead word e l turn.0
      go (inr (inr (inl l))) = short_dead word text e l turn.0
      go (inr (inr (inr is))) = dashed word is e turn.1 fault

  met_walk : (word : Text) (rest : List Text) (n : Text × List Text) → find (answers_to word) names ≡ Some n
      → (fold (walked (rules flags) names) start (word ∷ rest)).stopped ≡ Some (n.0, rest)
  unfolding walked
  met_walk word rest n e =
      let next : walked (rules flags) names start word ≡ record start { stopped = Some (n.0, []) } = rw e refl in
      ap (λ w. (fold (walked (rules flags) names) w rest).stopped) next ∙ collects (rules flags) names start n.0 [] rest

  -- what clap takes begins with the name of a subcommand, which takes the rest
  pub record Enters (words : List Text) : Type 0 where
    pub name : Text
    pub rest : List Text
    pub is : words ≡ name ∷ rest
    pub shape : Shape
    pub found : find (λ (s : Shape). answers_to name (label_of s)) subs ≡ Some shape
    pub fine : level_fault shape [] nothing_held rest false [] ≡ []
    pub entered_is : entered (app_with subs) (stop_after top.rules names words) ≡ Some (name, rows_after shape.rules [] rest)

  pub enters : (words : List Text) → AllByRecursion IsText words → built_fault (app_with subs) nothing_held words ≡ [] → Enters words
  enters [] texts fault = absurd (never_ends [] refl fault)
  enters (word ∷ rest) texts fault = go (find (λ (s : Shape). answers_to word (label_of s)) subs) refl
    where
      labels : find (answers_to word) names ≡ option_map label_of (find (λ (s : Shape). answers_to word (label_of s)) subs)
      labels = sym (find-map (answers_to word) label_of subs)

      go : (o : Option Shape) → find (λ (s : Shape). answers_to word (label_of s)) subs ≡ o → Enters (word ∷ rest)
      go None e = absurd (no_word_dead word rest texts.0 (labels ∙ ap (option_map label_of) e) fault)
      go (Some s) e =
          let none : is_empty s.aliases ≡ true = all_found (λ (s : Shape). answers_to word (label_of s)) (λ (s : Shape). is_empty s.aliases) subs s plain e in
          let named : s.name ≡ word = by_name s.aliases none (passes_found (λ (s : Shape). answers_to word (label_of s)) subs s e) in
          let own : find (λ (x : Shape). answers_to s.name (label_of x)) subs ≡ Some s = ap (λ t. find (λ (x : Shape). answers_to t (label_of x)) subs) named ∙ e in
          let stop : (fold (walked (rules flags) names) start (word ∷ rest)).stopped ≡ Some (s.name, rest) = met_walk word rest (label_of s) (labels ∙ ap (option_map label_of) e) in
          let later = neither (walk_fault top names start (word ∷ rest)) _ fault in
          let below : entered_fault (app_with subs) (fold (walked (rules flags) names) start (word ∷ rest)).stopped ≡ [] = (neither _ _ later.1).0 in
          record {
            name = word;
            rest = rest;
            is = refl;
            shape = s;
            found = e;
            fine = subst (λ o. option_map_or (λ (x : Shape). level_fault x [] nothing_held rest false []) o [] ≡ []) own (subst (λ o. entered_fault (app_with subs) o ≡ []) stop below);
            entered_is = ap (entered (app_with subs)) stop ∙ ap (option_map (λ (x : Shape). rows_at x rest)) own ∙ ap (λ t. Some (t, rows_after s.rules [] rest)) named;
          }
        where
          by_name : (aliases : List Text) → is_empty aliases ≡ true → (bytes_eq s.name word || list_any (λ alias. bytes_eq alias word) aliases) ≡ true → s.name ≡ word
          by_name [] none f = same s.name word (or_no (bytes_eq s.name word) f)
            where
              or_no : (b : Bool) → (b || false) ≡ true → b ≡ true
              or_no true f = refl
              or_no false f = f
          by_name (alias ∷ aliases) none f = absurd (true≢false (sym (sym (above (length aliases)) ∙ none)))
            where
              above : (n : ℕ) → (suc n == 0) ≡ false
              above n = grind (arith, nat_tests)
