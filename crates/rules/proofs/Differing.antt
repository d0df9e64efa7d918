-- Which rows differ between two states, key by key, and which of some changes in order make a row differ.
use Rattle.std.proofs.Common.{◌≡◌, ℕ, Bool, true, false, cond, not, ◌&&◌, List, [], ◌∷◌, map, Option, Some, None, T, refl, sym, ap, ◌∙◌, eq-eqb}
use Rattle.std.specs.Prelude.{if◌then◌else◌, unwrap_or, option_map, option_and_then}
use Rattle.std.specs.List.{filter}
use Rattle.std.specs.Str.{bytes_eq}
use Rattle.std.specs.Cmp.Lexicographic.{bytes_decides}
use Rattle.std.specs.Ordering.{is_lt}
use Rattle.std.specs.declared.cmp.Ordering.{Ordering}
use Rattle.std.specs.declared.cmp.Ordering.TheVariants.{Less, Equal, Greater}
use Rattle.std.specs.FinMap.{get, find, entries, entries_sorted, is_sorted, get-entries}
use Rattle.std.specs.FinMap.Entries.{below_all, same_entries}
use Rattle.rules.specs.declared.row.Row.{Row}
use Rattle.rules.specs.State.{StateKey, State, KeyMap, ChangeOf, key_cmp, is_same_key, set_at, with_changes}
use Rattle.rules.specs.Differing.{policy_text, is_same_row, is_unchanged, before_or_after, differing}
use Rattle.rules.proofs.Booleans.{both_true}
use Rattle.rules.proofs.Keys.{key_cmp_total, key_cmp-IsAntisymmetric, key_ties, same_key_is}
use Rattle.rules.proofs.Changes.{get-set_at}

-- ---- tests

holds : (b : Bool) → b ≡ true → T b
holds true e = tt
holds false e = absurd cc

held : (b : Bool) → T b → b ≡ true
held true t = refl
held false t = absurd t

is_less : (o : Ordering) → is_lt o ≡ true → o ≡ Less
is_less Less e = refl
is_less Equal e = absurd cc
is_less Greater e = absurd cc

-- ---- lists that are sorted by their keys

abbrev InOrder : {X : Type 0} → List (StateKey × X) → Type 0
InOrder es = is_sorted key_cmp es ≡ true

in_order : {X : Type 0} (m : KeyMap X) → InOrder (entries m)
in_order m = held (is_sorted key_cmp (entries m)) (entries_sorted m)

-- a key that stands before all is none of theirs
before_all : {X : Type 0} (k : StateKey) (es : List (StateKey × X)) → below_all key_cmp k es ≡ true → find key_cmp k es ≡ None
before_all k [] below = refl
before_all k (e ∷ es) below =
    let parts = both_true (is_lt (key_cmp k e.0)) (below_all key_cmp k es) below in
    rw (is_less (key_cmp k e.0) parts.0) (before_all k es parts.1)

module _ {X : Type 0} (e : StateKey × X) (es : List (StateKey × X)) (sorted : InOrder (e ∷ es)) where
  first_below : below_all key_cmp e.0 es ≡ true
  first_below = (both_true (below_all key_cmp e.0 es) (is_sorted key_cmp es) sorted).0

  rest_sorted : InOrder es
  rest_sorted = (both_true (below_all key_cmp e.0 es) (is_sorted key_cmp es) sorted).1

  not_again : (q : StateKey) → is_same_key q e.0 ≡ true → find key_cmp q es ≡ None
  not_again q same = ap (λ (k : StateKey). find key_cmp k es) (same_key_is q e.0 same) ∙ before_all e.0 es first_below

-- ---- those that pass a test of key and value

module _ {X : Type 0} (p : StateKey × X → Bool) where
  below_filter : (k : StateKey) (es : List (StateKey × X)) → below_all key_cmp k es ≡ true → below_all key_cmp k (filter p es) ≡ true
  below_filter k [] below = refl
  below_filter k (e ∷ es) below =
      let parts = both_true (is_lt (key_cmp k e.0)) (below_all key_cmp k es) below in
      by (p e) parts.0 (below_filter k es parts.1)
    where
      by : (b : Bool) → is_lt (key_cmp k e.0) ≡ true → below_all key_cmp k (filter p es) ≡ true → below_all key_cmp k (cond b (e ∷ filter p es) (filter p es)) ≡ true
      by true first rest = λ i. first i && rest i
      by false first rest = rest

  pub sorted-filter : (es : List (StateKey × X)) → InOrder es → InOrder (filter p es)
  sorted-filter [] sorted = refl
  sorted-filter (e ∷ es) sorted =
      by (p e) (below_filter e.0 es (first_below e es sorted)) (sorted-filter es (rest_sorted e es sorted))
    where
      by : (b : Bool) → below_all key_cmp e.0 (filter p es) ≡ true → InOrder (filter p es) → InOrder (cond b (e ∷ filter p es) (filter p es))
      by true first rest = λ i. first i && rest i
      by false first rest = rest

  -- what is left of what a key has
  abbrev if_passes : StateKey → Option X → Option X
  if_passes q o = option_and_then (λ x. if p (q, x) then Some x else None) o

  pub find-filter : (es : List (StateKey × X)) (q : StateKey) → InOrder es → find key_cmp q (filter p es) ≡ if_passes q (find key_cmp q es)
  find-filter [] q sorted = refl
  find-filter (e ∷ es) q sorted =
      by (p e) (is_same_key q e.0) refl refl (find-filter es q (rest_sorted e es sorted))
      ∙ ap (λ (b : Bool). if_passes q (cond b (Some e.1) (find key_cmp q es))) (sym (key_ties q e.0))
    where
      at : (b : Bool) → is_same_key q e.0 ≡ true → p e ≡ b → p (q, e.1) ≡ b
      at b same passes = ap (λ (k : StateKey). p (k, e.1)) (same_key_is q e.0 same) ∙ passes

      by : (b c : Bool) → p e ≡ b → is_same_key q e.0 ≡ c → find key_cmp q (filter p es) ≡ if_passes q (find key_cmp q es)
          → find key_cmp q (cond b (e ∷ filter p es) (filter p es)) ≡ if_passes q (cond c (Some e.1) (find key_cmp q es))
      by true true passes same rest = ap (λ (b : Bool). cond b (Some e.1) (find key_cmp q (filter p es))) (key_ties q e.0 ∙ same) ∙ ap (λ (b : Bool). if b then Some e.1 else None) (sym (at true same passes))
      by true false passes same rest = ap (λ (b : Bool). cond b (Some e.1) (find key_cmp q (filter p es))) (key_ties q e.0 ∙ same) ∙ rest
      by false true passes same rest = rest ∙ ap (if_passes q) (not_again e es sorted q same) ∙ ap (λ (b : Bool). if b then Some e.1 else None) (sym (at false same passes))
      by false false passes same rest = rest

-- ---- each key with something else beside it

module _ {X Y : Type 0} (f : StateKey × X → Y) where
  abbrev beside : List (StateKey × X) → List (StateKey × Y)
  beside es = map (λ e. (e.0, f e)) es

  below-beside : (k : StateKey) (es : List (StateKey × X)) → below_all key_cmp k (beside es) ≡ below_all key_cmp k es
  below-beside k [] = refl
  below-beside k (e ∷ es) = ap (λ (b : Bool). is_lt (key_cmp k e.0) && b) (below-beside k es)

  sorted-beside : (es : List (StateKey × X)) → is_sorted key_cmp (beside es) ≡ is_sorted key_cmp es
  sorted-beside [] = refl
  sorted-beside (e ∷ es) = λ i. below-beside e.0 es i && sorted-beside es i

  find-beside : (es : List (StateKey × X)) (q : StateKey) → find key_cmp q (beside es) ≡ option_map (λ x. f (q, x)) (find key_cmp q es)
  find-beside [] q = refl
  find-beside (e ∷ es) q =
      ap (λ (b : Bool). cond b (Some (f e)) (find key_cmp q (beside es))) (key_ties q e.0)
      ∙ by (is_same_key q e.0) refl (find-beside es q)
      ∙ ap (λ (b : Bool). option_map (λ x. f (q, x)) (cond b (Some e.1) (find key_cmp q es))) (sym (key_ties q e.0))
    where
      by : (b : Bool) → is_same_key q e.0 ≡ b → find key_cmp q (beside es) ≡ option_map (λ x. f (q, x)) (find key_cmp q es)
          → cond b (Some (f e)) (find key_cmp q (beside es)) ≡ option_map (λ x. f (q, x)) (cond b (Some e.1) (find key_cmp q es))
      by true same rest = ap (λ (k : StateKey). Some (f (k, e.1))) (sym (same_key_is q e.0 same))
      by false same rest = rest

-- what a key has after changes in order: what they say of it, else what it had
pub get-with_sorted : {X : Type 0} (m : KeyMap X) (cs : List (ChangeOf X)) (q : StateKey) → InOrder cs → get (with_changes m cs) q ≡ unwrap_or (find key_cmp q cs) (get m q)
unfolding with_changes
get-with_sorted {X} m [] q sorted = refl
get-with_sorted {X} m (c ∷ cs) q sorted =
    get-with_sorted (set_at m c.0 c.1) cs q (rest_sorted c cs sorted)
    ∙ ap (unwrap_or (find key_cmp q cs)) (get-set_at m c.0 c.1 q)
    ∙ by (is_same_key q c.0) refl
    ∙ ap (λ (b : Bool). unwrap_or (cond b (Some c.1) (find key_cmp q cs)) (get m q)) (sym (key_ties q c.0))
  where
    by : (b : Bool) → is_same_key q c.0 ≡ b → unwrap_or (find key_cmp q cs) (if b then c.1 else get m q) ≡ unwrap_or (cond b (Some c.1) (find key_cmp q cs)) (get m q)
    by true same = ap (λ (o : Option (Option X)). unwrap_or o c.1) (not_again c cs sorted q same)
    by false same = refl

-- ---- the rows that differ

pub same_itself : (o : Option Row) → is_unchanged o o ≡ true
same_itself None = refl
same_itself (Some r) =
    rw (eq-eqb r.version.block r.version.block refl, eq-eqb r.version.tx r.version.tx refl, (bytes_decides r.value r.value).1 refl, (bytes_decides (policy_text r.policy) (policy_text r.policy)).1 refl) refl

-- what they say of a key
abbrev pub difference : Option Row → Option Row → Option (Option Row)
difference before after = if is_unchanged before after then None else Some after

-- a change of a key that had this
abbrev if_changed : Option Row → Option Row → Option (Option Row)
if_changed before x = if not (is_unchanged before x) then Some x else None

turned : (b : Bool) (x : Option Row) → (if not b then Some x else None) ≡ (if b then None else Some x)
turned true x = refl
turned false x = refl

module _ (before after : State) where
  abbrev each_after : List (ChangeOf Row)
  each_after = beside (λ e. get after e.0) (entries (before_or_after before after))

  each_in_order : InOrder each_after
  each_in_order = sorted-beside (λ e. get after e.0) (entries (before_or_after before after)) ∙ in_order (before_or_after before after)

  get-before_or_after : (q : StateKey) → get (before_or_after before after) q ≡ unwrap_or (option_map (λ r. Some r) (get after q)) (get before q)
  get-before_or_after q =
      get-with_sorted before (beside (λ e. Some e.1) (entries after)) q (sorted-beside (λ e. Some e.1) (entries after) ∙ in_order after)
      ∙ ap (λ (o : Option (Option Row)). unwrap_or o (get before q)) (find-beside (λ e. Some e.1) (entries after) q ∙ ap (option_map (λ r. Some r)) (sym (get-entries after q)))

  pub sorted-differing : InOrder (differing before after)
  unfolding differing
  sorted-differing = sorted-filter (λ c. not (is_unchanged (get before c.0) c.1)) each_after each_in_order

  pub find-differing : (q : StateKey) → find key_cmp q (differing before after) ≡ difference (get before q) (get after q)
  unfolding differing
  find-differing q =
      find-filter (λ c. not (is_unchanged (get before c.0) c.1)) each_after q each_in_order
      ∙ ap (option_and_then (if_changed (get before q)))
      (find-beside (λ e. get after e.0) (entries (before_or_after before after)) q ∙ ap (option_map (λ x. get after q)) (sym (get-entries (before_or_after before after) q) ∙ get-before_or_after q))
      ∙ by (get before q) (get after q)
    where
      by : (b a : Option Row) → option_and_then (if_changed b) (option_map (λ x. a) (unwrap_or (option_map (λ r. Some r) a) b)) ≡ difference b a
      by None None = refl
      by (Some r) None = refl
      by b (Some r) = turned (is_unchanged b (Some r)) (Some r)

  -- no other list in order says so of each key
  pub differing_is : (cs : List (ChangeOf Row)) → InOrder cs → ((q : StateKey) → find key_cmp q cs ≡ difference (get before q) (get after q)) → cs ≡ differing before after
  differing_is cs sorted each =
      same_entries key_cmp key_cmp_total key_cmp-IsAntisymmetric cs (differing before after) (holds _ sorted) (holds _ sorted-differing) (λ q. each q ∙ sym (find-differing q))

-- of changes in order, those that make their row differ are the rows that differ once all are made
pub differing-changed : (s : State) (cs : List (ChangeOf Row)) → InOrder cs → filter (λ c. not (is_unchanged (get s c.0) c.1)) cs ≡ differing s (with_changes s cs)
differing-changed s cs sorted =
    differing_is s (with_changes s cs) (filter (λ c. not (is_unchanged (get s c.0) c.1)) cs) (sorted-filter (λ c. not (is_unchanged (get s c.0) c.1)) cs sorted)
    (λ q. find-filter (λ c. not (is_unchanged (get s c.0) c.1)) cs q sorted ∙ by (get s q) (find key_cmp q cs) ∙ ap (difference (get s q)) (sym (get-with_sorted s cs q sorted)))
  where
    by : (b : Option Row) (o : Option (Option Row)) → option_and_then (if_changed b) o ≡ difference b (unwrap_or o b)
    by b None = ap (λ (t : Bool). if t then None else Some b) (sym (same_itself b))
    by b (Some x) = turned (is_unchanged b x) x
