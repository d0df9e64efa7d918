-- The rows before the block and the keys that it writes are all that a range's check has to look at.
use Rattle.std.proofs.Common.{◌≡◌, ◌≢◌, ℕ, Bool, true, false, cond, ◌&&◌, ◌||◌, List, [], ◌∷◌, ◌++◌, map, Option, Some, None, refl, sym, ap, subst, ◌∙◌}
use Rattle.std.specs.Prelude.{IsTrue, IsSome, is_some, option_map}
use Rattle.std.specs.Str.{bytes_eq}
use Rattle.std.specs.List.{list_any, last_or, filter}
use Rattle.std.specs.Ordering.{eq_by_cmp}
use Rattle.std.specs.Cmp.Lexicographic.{bytes_decides}
use Rattle.std.specs.FinMap.{get, find, entries, get-entries}
use Rattle.std.proofs.lemmas.List.Folds.{list_any-append}
use Rattle.transaction.specs.declared.transaction.Version.{Version}
use Rattle.transaction.specs.declared.transaction.Range.{Range}
use Rattle.rules.specs.declared.row.Row.{Row}
use Rattle.rules.specs.State.{StateKey, key_cmp, is_same_key, is_among, version_in}
use Rattle.rules.specs.Ranges.{is_within, is_up_to, rows_where, range_holds}
use Rattle.rules.specs.ReadWriteSets.{has_results_in_form}
use Rattle.rules.specs.Job.{Job}
use Rattle.rules.specs.Assignment.{Assignment, state_under}
use Rattle.rules.specs.Sure.{Sure}
use Rattle.rules.proofs.Booleans.{or-true, both_true}
use Rattle.rules.proofs.Keys.{key_ties, same_key_is}
use Rattle.key_chains.specs.declared.decision.Decision.{Decision}
use Rattle.key_chains.specs.declared.decision.Decision.TheVariants as decision
use Rattle.key_chains.specs.declared.operation.Operation.{Operation}
use Rattle.key_chains.specs.Decided.{MatchDecision}
use Rattle.key_chains.specs.Operations.{operations}
use Rattle.mvcc.specs.Versions.{version_over}
use Rattle.mvcc.specs.RangeChecks.{is_as_found}
use Rattle.mvcc.proofs.ByOperations.{version_by_operations}
use Rattle.mvcc.proofs.Results.{and_true}
use Rattle.mvcc.proofs.RangeLaw.{Cover, range_by_looks}

-- ---- rows

has_row : {X : Type 0} (f : Row → X) (o : Option Row) → IsSome (option_map f o) → is_some o ≡ true
has_row f None some = absurd cc
has_row f (Some row) some = refl

module _ (namespace q : List ℕ) (test : List ℕ → Bool) (passes : test q ≡ true) where
  -- a row of the key is among those of the namespace that pass
  row_among : (es : List (StateKey × Row)) → is_some (find key_cmp (namespace, q) es) ≡ true → list_any (bytes_eq q) (map (λ e. e.0.1) (filter (λ e. bytes_eq namespace e.0.0 && test e.0.1) es)) ≡ true
  row_among [] has = absurd cc
  row_among (e ∷ es) has = by (eq_by_cmp key_cmp (namespace, q) e.0) refl has (row_among es)
    where
      either : (b : Bool) → list_any (bytes_eq q) (map (λ x. x.0.1) (filter (λ x. bytes_eq namespace x.0.0 && test x.0.1) es)) ≡ true
          → list_any (bytes_eq q) (map (λ x. x.0.1) (cond b (e ∷ filter (λ x. bytes_eq namespace x.0.0 && test x.0.1) es) (filter (λ x. bytes_eq namespace x.0.0 && test x.0.1) es))) ≡ true
      either true later = ap (λ (b : Bool). bytes_eq q e.0.1 || b) later ∙ or-true (bytes_eq q e.0.1)
      either false later = later

      by : (b : Bool) → eq_by_cmp key_cmp (namespace, q) e.0 ≡ b → is_some (cond b (Some e.1) (find key_cmp (namespace, q) es)) ≡ true
          → (is_some (find key_cmp (namespace, q) es) ≡ true → list_any (bytes_eq q) (map (λ x. x.0.1) (filter (λ x. bytes_eq namespace x.0.0 && test x.0.1) es)) ≡ true)
          → list_any (bytes_eq q) (map (λ x. x.0.1) (filter (λ x. bytes_eq namespace x.0.0 && test x.0.1) (e ∷ es))) ≡ true
      by true tie has later =
          let same : (namespace, q) ≡ e.0 = same_key_is (namespace, q) e.0 (sym (key_ties (namespace, q) e.0) ∙ tie) in
          let own : bytes_eq namespace e.0.0 ≡ true = (bytes_decides namespace e.0.0).1 (ap (λ (k : StateKey). k.0) same) in
          let key : q ≡ e.0.1 = ap (λ (k : StateKey). k.1) same in
          ap (λ (b : Bool). list_any (bytes_eq q) (map (λ x. x.0.1) (cond b (e ∷ filter (λ x. bytes_eq namespace x.0.0 && test x.0.1) es) (filter (λ x. bytes_eq namespace x.0.0 && test x.0.1) es)))) (and_true (bytes_eq namespace e.0.0) (test e.0.1) own (ap test (sym key) ∙ passes))
          ∙ ap (λ (b : Bool). b || list_any (bytes_eq q) (map (λ x. x.0.1) (filter (λ x. bytes_eq namespace x.0.0 && test x.0.1) es))) ((bytes_decides q e.0.1).1 key)
      by false tie has later = either (bytes_eq namespace e.0.0 && test e.0.1) (later has)

-- ---- keys

key_among : (namespace q : List ℕ) (keys : List StateKey) → is_among (namespace, q) keys ≡ true → list_any (bytes_eq q) (map (λ k. k.1) keys) ≡ true
key_among namespace q [] among = absurd cc
key_among namespace q (k ∷ keys) among = by (is_same_key (namespace, q) k) refl among (key_among namespace q keys)
  where
    by : (b : Bool) → is_same_key (namespace, q) k ≡ b → (b || is_among (namespace, q) keys) ≡ true → (is_among (namespace, q) keys ≡ true → list_any (bytes_eq q) (map (λ x. x.1) keys) ≡ true)
        → (bytes_eq q k.1 || list_any (bytes_eq q) (map (λ x. x.1) keys)) ≡ true
    by true is among later = ap (λ (b : Bool). b || list_any (bytes_eq q) (map (λ x. x.1) keys)) (both_true (bytes_eq namespace k.0) (bytes_eq q k.1) is).1
    by false is among later = ap (λ (b : Bool). bytes_eq q k.1 || b) (later among) ∙ or-true (bytes_eq q k.1)

some_operations : (o : Operation) (os : List Operation) → o ∷ os ≢ []
some_operations o os e = absurd cc

-- ---- both

module _ (j : Job) (namespace : List ℕ) (r : Range) (rows : List (StateKey × Row)) (keys : List StateKey)
    (all_rows : rows ≡ rows_where j.state namespace (is_within r.start r.end))
    (all_keys : (k : StateKey) (i : ℕ) → k.0 ≡ namespace → IsTrue (is_within r.start r.end k.1) → operations j.candidates k i ≢ [] → IsTrue (is_among k keys)) where
  pub cover : (called : Assignment) (i : ℕ) → Cover (state_under j called i) namespace r (map (λ e. e.0.1) rows ++ map (λ k. k.1) keys)
  cover called i q compared some = list_any-append (bytes_eq q) (map (λ e. e.0.1) rows) (map (λ k. k.1) keys) ∙ by (operations j.candidates (namespace, q) i) refl
    where
      within : is_within r.start r.end q ≡ true
      within = (both_true (is_within r.start r.end q) (r.exhausted || is_up_to q (last_or None r.results)) compared).0

      by : (os : List Operation) → operations j.candidates (namespace, q) i ≡ os → (list_any (bytes_eq q) (map (λ e. e.0.1) rows) || list_any (bytes_eq q) (map (λ k. k.1) keys)) ≡ true
      by [] e =
          let same : version_in (state_under j called i) (namespace, q) ≡ version_in j.state (namespace, q) =
          version_by_operations j (namespace, q) called i ∙ ap (λ (os : List Operation). version_over j.number called os (version_in j.state (namespace, q))) e in
          let there : is_some (get j.state (namespace, q)) ≡ true = has_row (λ row. row.version) (get j.state (namespace, q)) (subst (λ (o : Option Version). IsSome o) same some) in
          let among = row_among namespace q (is_within r.start r.end) within (entries j.state) (ap (λ (o : Option Row). is_some o) (sym (get-entries j.state (namespace, q))) ∙ there) in
          ap (λ (b : Bool). b || list_any (bytes_eq q) (map (λ k. k.1) keys)) (ap (λ (es : List (StateKey × Row)). list_any (bytes_eq q) (map (λ e. e.0.1) es)) all_rows ∙ among)
      by (o ∷ os) e =
          ap (λ (b : Bool). list_any (bytes_eq q) (map (λ e. e.0.1) rows) || b) (key_among namespace q keys (all_keys (namespace, q) i refl within (λ none. some_operations o os (sym e ∙ none))))
          ∙ or-true (list_any (bytes_eq q) (map (λ e. e.0.1) rows))

  pub decided_range : (known : ℕ → Option Bool) (i : ℕ) (W : ℕ → Type 0) (d : Decision Bool) → IsTrue (has_results_in_form r)
      → MatchDecision d (λ v. Sure (λ called n. is_as_found (state_under j called n) namespace r (map (λ e. e.0.1) rows) (map (λ k. k.1) keys)) known i v) W
      → MatchDecision d (λ v. Sure (λ called n. range_holds (state_under j called n) namespace r) known i v) W
  decided_range known i W (decision.Sure v) in_form sure = λ called agrees. range_by_looks (state_under j called i) namespace r (map (λ e. e.0.1) rows) (map (λ k. k.1) keys) (cover called i) in_form ∙ sure called agrees
  decided_range known i W (decision.Blocked h) in_form waits = waits
