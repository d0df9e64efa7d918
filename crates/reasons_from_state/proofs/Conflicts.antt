-- The first read, or range, that doesn't hold is that of the first namespace with a fault.
use Rattle.std.proofs.Common.{◌≡◌, ◌⊎◌, inl, inr, ℕ, Bool, true, false, cond, not, List, [], ◌∷◌, map, find, Option, Some, None, is_some, refl, sym, ap, subst, ◌∙◌}
use Rattle.std.specs.Prelude.{IsSome, option_map}
use Rattle.std.specs.List.{list_all}
use Rattle.std.specs.Option.{option_or}
use Rattle.std.specs.FinMap.{is_sorted}
use Rattle.transaction.specs.declared.transaction.Read.{Read}
use Rattle.transaction.specs.declared.transaction.Range.{Range}
use Rattle.transaction.specs.declared.transaction.NsSet.{NsSet}
use Rattle.transaction.specs.declared.transaction.Tx.{Tx}
use Rattle.values.specs.Order.{bytes_cmp}
use Rattle.rules.specs.declared.read_verdict.ReadVerdict.TheVariants.{Good, Stale, Phantom}
use Rattle.rules.specs.State.{State}
use Rattle.rules.specs.Job.{Job}
use Rattle.rules.specs.Fold.{running}
use Rattle.rules.specs.Ranges.{range_holds, results_of, is_within}
use Rattle.rules.specs.Reads.{read_holds, set_verdict}
use Rattle.rules.specs.ReadWriteSets.{has_results_in_form, is_set_in_form}
use Rattle.rules.proofs.Booleans.{both_true}
use Rattle.rules.proofs.Ranges.{range_by_keys}
use Rattle.reasons.specs.First.{first_there}
use Rattle.reasons.specs.Reads.{is_good, stale_read, IsStaleRead}
use Rattle.reasons.specs.Ranges.{version_there, version_read, IsFirstDifference, phantom_key, IsPhantomKey}
use Rattle.reasons.specs.declared.stale_read.StaleRead.{StaleRead}
use Rattle.reasons.specs.declared.phantom_key.PhantomKey.{PhantomKey}
use Rattle.reasons_from_state.specs.Found.{stale_in, IsFoundFirst, IsFoundInRange, IsFoundInSet, IsFoundInSets}

some_is : {X : Type 0} (x y : X) → Some x ≡ Some y → x ≡ y
some_is x y e = cc

none_found : {X : Type 0} (p : X → Bool) (xs : List X) → list_all p xs ≡ true → find (λ x. not (p x)) xs ≡ None
none_found p [] e = refl
none_found p (x ∷ xs) e =
    let both = both_true (p x) (list_all p xs) e in
    ap (λ (b : Bool). cond (not b) (Some x) (find (λ y. not (p y)) xs)) both.0 ∙ none_found p xs both.1

-- in a namespace without a fault all reads and ranges hold
both_hold : (reads ranges : Bool) → is_good (cond reads (cond ranges Good Phantom) Stale) ≡ true → (reads ≡ true) × (ranges ≡ true)
both_hold true true e = (refl, refl)
both_hold true false e = absurd cc
both_hold false ranges e = absurd cc

all_hold : (s : State) (n : NsSet) → is_good (set_verdict s n) ≡ true → (list_all (read_holds s n.name) n.reads ≡ true) × (list_all (range_holds s n.name) n.ranges ≡ true)
all_hold s n e = both_hold (list_all (read_holds s n.name) n.reads) (list_all (range_holds s n.name) n.ranges) e

-- ---- reads

module _ (j : Job) (i : ℕ) where
  abbrev now : State
  now = (running j i).state

  first_stale : (sets : List NsSet) (n : NsSet) (r : Read) → find (λ m. not (is_good (set_verdict now m))) sets ≡ Some n → find (λ y. not (read_holds now n.name y)) n.reads ≡ Some r
      → first_there (map (stale_in j i) sets) ≡ Some (stale_read j i n.name r)
  first_stale [] n r e f = absurd cc
  first_stale (m ∷ ms) n r e f = by (is_good (set_verdict now m)) refl e (λ rest. first_stale ms n r rest f)
    where
      by : (b : Bool) → is_good (set_verdict now m) ≡ b → cond (not b) (Some m) (find (λ x. not (is_good (set_verdict now x))) ms) ≡ Some n
          → (find (λ x. not (is_good (set_verdict now x))) ms ≡ Some n → first_there (map (stale_in j i) ms) ≡ Some (stale_read j i n.name r))
          → option_or (stale_in j i m) (first_there (map (stale_in j i) ms)) ≡ Some (stale_read j i n.name r)
      by true good e later =
          ap (λ (o : Option Read). option_or (option_map (stale_read j i m.name) o) (first_there (map (stale_in j i) ms))) (none_found (read_holds now m.name) m.reads (all_hold now m good).0)
          ∙ later e
      by false bad e later =
          let same : m ≡ n = some_is m n e in
          let found : stale_in j i m ≡ Some (stale_read j i n.name r) = ap (stale_in j i) same ∙ ap (option_map (stale_read j i n.name)) f in
          ap (λ (o : Option StaleRead). option_or o (first_there (map (stale_in j i) ms))) found

  pub stale_read_is_first : (tx : Tx) (x : StaleRead) → IsStaleRead j i tx x → first_there (map (stale_in j i) tx.namespaces) ≡ Some x
  stale_read_is_first tx x is = first_stale tx.namespaces is.0 is.1 is.2 is.3 ∙ ap (λ (y : StaleRead). Some y) (sym is.4)

-- ---- ranges

module _ (j : Job) (i : ℕ) where
  abbrev s : State
  s = (running j i).state

  same_keys : (namespace : List ℕ) (r : Range) → has_results_in_form r ≡ true → range_holds s namespace r ≡ true → (key : List ℕ) → version_there s namespace r key ≡ version_read r key
  same_keys namespace r in_form holds = (range_by_keys s namespace r (both_true (is_sorted bytes_cmp (results_of r)) (list_all (λ x. is_within r.start r.end x.key) r.results) in_form).0).0 holds

  nothing_there : (x : Option PhantomKey) → IsSome x → x ≡ None → ⊥
  nothing_there x some none = absurd (cc (some, ap (λ (o : Option PhantomKey). is_some o) none))

  -- nothing is found in a range that holds
  in_none : (namespace : List ℕ) (r : Range) (x : Option PhantomKey) → has_results_in_form r ≡ true → range_holds s namespace r ≡ true → IsFoundInRange j i namespace r x → x ≡ None
  in_none namespace r None in_form holds found = refl
  in_none namespace r (Some p) in_form holds found = absurd (found.1.differs (same_keys namespace r in_form holds found.0))

  in_no_range : (namespace : List ℕ) (ranges : List Range) (x : Option PhantomKey) → list_all has_results_in_form ranges ≡ true → list_all (range_holds s namespace) ranges ≡ true
      → IsFoundFirst (IsFoundInRange j i namespace) ranges x → x ≡ None
  in_no_range namespace [] x in_form hold found = found
  in_no_range namespace (r ∷ rs) x in_form hold (inl found) =
      in_none namespace r x (both_true (has_results_in_form r) (list_all has_results_in_form rs) in_form).0 (both_true (range_holds s namespace r) (list_all (range_holds s namespace) rs) hold).0 found.0
  in_no_range namespace (r ∷ rs) x in_form hold (inr found) =
      in_no_range namespace rs x (both_true (has_results_in_form r) (list_all has_results_in_form rs) in_form).1 (both_true (range_holds s namespace r) (list_all (range_holds s namespace) rs) hold).1 found.1

  -- it is the first difference of this range
  abbrev IsOf : List ℕ → Range → Option PhantomKey → Type 0
  IsOf namespace r x = (p : PhantomKey) × (key : List ℕ) × (x ≡ Some p) × IsFirstDifference (version_there s namespace r) (version_read r) key × (p ≡ phantom_key j i namespace r key)

  in_range : (namespace : List ℕ) (ranges : List Range) (x : Option PhantomKey) → list_all has_results_in_form ranges ≡ true → IsFoundFirst (IsFoundInRange j i namespace) ranges x
      → (r : Range) → find (λ y. not (range_holds s namespace y)) ranges ≡ Some r → (key : List ℕ) → IsFirstDifference (version_there s namespace r) (version_read r) key → IsOf namespace r x
  in_range namespace [] x in_form found r e key first = absurd cc
  in_range namespace (y ∷ ys) x in_form found r e key first =
      by (range_holds s namespace y) refl e found (λ f rest. in_range namespace ys x (both_true (has_results_in_form y) (list_all has_results_in_form ys) in_form).1 f r rest key first)
    where
      own : has_results_in_form y ≡ true
      own = (both_true (has_results_in_form y) (list_all has_results_in_form ys) in_form).0

      here : y ≡ r → (x : Option PhantomKey) → IsFoundInRange j i namespace y x → IsSome x → IsOf namespace r x
      here same None f some = absurd cc
      here same (Some p) f some = subst (λ (z : Range). IsOf namespace z (Some p)) same (p, f.0, refl, f.1, f.2)

      by : (b : Bool) → range_holds s namespace y ≡ b → cond (not b) (Some y) (find (λ z. not (range_holds s namespace z)) ys) ≡ Some r
          → (IsFoundInRange j i namespace y x × IsSome x) ⊎ (IsFoundInRange j i namespace y None × IsFoundFirst (IsFoundInRange j i namespace) ys x)
          → (IsFoundFirst (IsFoundInRange j i namespace) ys x → find (λ z. not (range_holds s namespace z)) ys ≡ Some r → IsOf namespace r x) → IsOf namespace r x
      by true holds e (inl f) later = absurd (nothing_there x f.1 (in_none namespace y x own holds f.0))
      by true holds e (inr f) later = later f.1 e
      by false fails e (inl f) later = here (some_is y r e) x f.0 f.1
      by false fails e (inr f) later =
          let same : y ≡ r = some_is y r e in
          absurd (first.differs (subst (λ (z : Range). (k : List ℕ) → version_there s namespace z k ≡ version_read z k) same f.0 key))

  abbrev ranges_in_form : (n : NsSet) → is_set_in_form n ≡ true → list_all has_results_in_form n.ranges ≡ true
  ranges_in_form n h = (both_true _ _ (both_true _ _ h).0).1

  in_sets : (sets : List NsSet) (x : Option PhantomKey) → list_all is_set_in_form sets ≡ true → IsFoundInSets j i sets x
      → (n : NsSet) → find (λ m. not (is_good (set_verdict s m))) sets ≡ Some n → (r : Range) → find (λ y. not (range_holds s n.name y)) n.ranges ≡ Some r
      → (key : List ℕ) → IsFirstDifference (version_there s n.name r) (version_read r) key → IsOf n.name r x
  in_sets [] x in_form found n e r f key first = absurd cc
  in_sets (m ∷ ms) x in_form found n e r f key first =
      by (is_good (set_verdict s m)) refl e found (λ g rest. in_sets ms x (both_true (is_set_in_form m) (list_all is_set_in_form ms) in_form).1 g n rest r f key first)
    where
      own : list_all has_results_in_form m.ranges ≡ true
      own = ranges_in_form m (both_true (is_set_in_form m) (list_all is_set_in_form ms) in_form).0

      in_own : (x : Option PhantomKey) → m ≡ n → IsFoundInSet j i m x → IsOf n.name r x
      in_own x same g =
          in_range n.name n.ranges x (subst (λ (z : NsSet). list_all has_results_in_form z.ranges ≡ true) same own) (subst (λ (z : NsSet). IsFoundInSet j i z x) same g) r f key first

      by : (b : Bool) → is_good (set_verdict s m) ≡ b → cond (not b) (Some m) (find (λ z. not (is_good (set_verdict s z))) ms) ≡ Some n
          → (IsFoundInSet j i m x × IsSome x) ⊎ (IsFoundInSet j i m None × IsFoundInSets j i ms x)
          → (IsFoundInSets j i ms x → find (λ z. not (is_good (set_verdict s z))) ms ≡ Some n → IsOf n.name r x) → IsOf n.name r x
      by true good e (inl g) later = absurd (nothing_there x g.1 (in_no_range m.name m.ranges x own (all_hold s m good).1 g.0))
      by true good e (inr g) later = later g.1 e
      by false bad e (inl g) later = in_own x (some_is m n e) g.0
      by false bad e (inr g) later = let it = in_own None (some_is m n e) g.0 in absurd (cc it.2)

pub found_phantom : (j : Job) (i : ℕ) (tx : Tx) (x : Option PhantomKey) (y : PhantomKey) → list_all is_set_in_form tx.namespaces ≡ true → IsFoundInSets j i tx.namespaces x → IsPhantomKey j i tx y
    → (p : PhantomKey) × (x ≡ Some p) × IsPhantomKey j i tx p
found_phantom j i tx x y in_form found is =
    let it = in_sets j i tx.namespaces x in_form found is.0 is.3 is.1 is.4 is.2 is.5 in
    (it.0, it.2, (is.0, is.1, it.1, is.3, is.4, it.3, it.4))
