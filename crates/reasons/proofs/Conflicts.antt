-- A candidate whose reads or ranges don't hold has a first one that doesn't.
use Rattle.std.proofs.Common.{◌≡◌, ℕ, ◌<◌, Bool, true, false, cond, not, ◌&&◌, List, [], ◌∷◌, map, find, Option, Some, None, IfSome, refl, sym, ap, subst, ◌∙◌}
use Rattle.std.specs.List.{list_all}
use Rattle.transaction.specs.declared.transaction.NsSet.{NsSet}
use Rattle.transaction.specs.declared.transaction.Range.{Range}
use Rattle.transaction.specs.declared.transaction.Tx.{Tx}
use Rattle.rules.specs.declared.read_verdict.ReadVerdict.{ReadVerdict}
use Rattle.rules.specs.declared.read_verdict.ReadVerdict.TheVariants.{Good, Stale, Phantom}
use Rattle.std.specs.FinMap.{get}
use Rattle.transaction.specs.declared.transaction.Version.{Version}
use Rattle.rules.specs.State.{StateKey, State, version_in}
use Rattle.rules.specs.Ranges.{is_compared, versions_now, results_of, range_holds}
use Rattle.rules.specs.ReadWriteSets.{are_distinct, has_results_in_form, has_policy_in_form, is_set_in_form, is_in_form}
use Rattle.rules.specs.Reads.{read_holds, set_verdict, or_next, first_fault, read_verdict}
use Rattle.rules.specs.Job.{Job, version_of}
use Rattle.rules.specs.Fold.{running}
use Rattle.rules.proofs.Booleans.{both_true}
use Rattle.rules.proofs.OpenCandidates.{rising_results, sets_in_form}
use Rattle.reasons.specs.declared.phantom_key.PhantomKey.{PhantomKey}
use Rattle.reasons.specs.declared.stale_read.StaleRead.{StaleRead}
use Rattle.reasons.specs.Reads.{is_good, writes_row, stale_read, IsStaleRead, first_faulty}
use Rattle.reasons.specs.Ranges.{version_there, version_read, IsFirstDifference, phantom_key, IsPhantomKey}
use Rattle.reasons.proofs.Differences.{parted_if, first_difference, one_first_difference}
use Rattle.reasons.specs.First.{last_below}
use Rattle.reasons.proofs.Below.{last_below-lt}
use Rattle.reasons.proofs.Writers.{left_by, written_version, unwritten_version}
use Rattle.reasons.proofs.Lists.{some_is, not_true, found_if, found-passes, found-all}

-- the results of its ranges are
ranges_in_form : (n : NsSet) → is_set_in_form n ≡ true → list_all has_results_in_form n.ranges ≡ true
ranges_in_form n e =
    let keys : Bool = are_distinct (map (λ r. r.key) n.reads) && are_distinct (map (λ w. w.key) n.writes) && are_distinct (map (λ w. w.key) n.policy_writes) in
    let front = both_true (keys && list_all has_results_in_form n.ranges) (list_all has_policy_in_form n.policy_writes) e in
    (both_true keys (list_all has_results_in_form n.ranges) front.0).1

-- ---- the first namespace

first_bad : (s : State) (ns : List NsSet) (v : ReadVerdict) → first_fault (map (set_verdict s) ns) ≡ v → is_good v ≡ false
    → (n : NsSet) × (find (λ m. not (is_good (set_verdict s m))) ns ≡ Some n) × (set_verdict s n ≡ v)
first_bad s [] v e bad = let good : true ≡ false = ap is_good e ∙ bad in absurd cc
first_bad s (n ∷ ns) v e bad = by (set_verdict s n) refl e (λ rest. first_bad s ns v rest bad)
  where
    by : (w : ReadVerdict) → set_verdict s n ≡ w → or_next w (first_fault (map (set_verdict s) ns)) ≡ v
        → (first_fault (map (set_verdict s) ns) ≡ v → (m : NsSet) × (find (λ x. not (is_good (set_verdict s x))) ns ≡ Some m) × (set_verdict s m ≡ v))
        → (m : NsSet) × (cond (not (is_good w)) (Some n) (find (λ x. not (is_good (set_verdict s x))) ns) ≡ Some m) × (set_verdict s m ≡ v)
    by Good here e rest = rest e
    by Stale here e rest = (n, refl, here ∙ e)
    by Phantom here e rest = (n, refl, here ∙ e)

stale_reads : (a b : Bool) → cond a (cond b Good Phantom) Stale ≡ Stale → a ≡ false
stale_reads true true e = absurd cc
stale_reads true false e = absurd cc
stale_reads false b e = refl

phantom_ranges : (a b : Bool) → cond a (cond b Good Phantom) Stale ≡ Phantom → b ≡ false
phantom_ranges true true e = absurd cc
phantom_ranges true false e = refl
phantom_ranges false b e = absurd cc

module _ (j : Job) (i : ℕ) (tx : Tx) where
  -- ---- some read, some key

  pub stale_read_if : read_verdict (running j i).state tx ≡ Stale → (x : StaleRead) × IsStaleRead j i tx x
  stale_read_if e =
      let s : State = (running j i).state in
      let bad = first_bad s tx.namespaces Stale e refl in
      let n : NsSet = bad.0 in
      let found = found_if (read_holds s n.name) n.reads (stale_reads (list_all (read_holds s n.name) n.reads) (list_all (range_holds s n.name) n.ranges) bad.2) in
      (stale_read j i n.name found.0, (n, found.0, bad.1, found.1, refl))

  phantom_key_of : (n : NsSet) (r : Range) (key : List ℕ) → first_faulty (running j i).state tx ≡ Some n → find (λ y. not (range_holds (running j i).state n.name y)) n.ranges ≡ Some r
      → IsFirstDifference (version_there (running j i).state n.name r) (version_read r) key → (x : PhantomKey) × IsPhantomKey j i tx x
  phantom_key_of n r key faulty fails first = (phantom_key j i n.name r key, (n, r, key, faulty, fails, first, refl))

  pub phantom_key_if : is_in_form tx ≡ true → read_verdict (running j i).state tx ≡ Phantom → (x : PhantomKey) × IsPhantomKey j i tx x
  phantom_key_if in_form e =
      let s : State = (running j i).state in
      let bad = first_bad s tx.namespaces Phantom e refl in
      let n : NsSet = bad.0 in
      let found = found_if (range_holds s n.name) n.ranges (phantom_ranges (list_all (read_holds s n.name) n.reads) (list_all (range_holds s n.name) n.ranges) bad.2) in
      let r : Range = found.0 in
      let set : is_set_in_form n ≡ true = found-all (λ m. not (is_good (set_verdict s m))) is_set_in_form tx.namespaces n (sets_in_form tx in_form) bad.1 in
      let range : has_results_in_form r ≡ true = found-all (λ y. not (range_holds s n.name y)) has_results_in_form n.ranges r (ranges_in_form n set) found.1 in
      let fails : range_holds s n.name r ≡ false = not_true (range_holds s n.name r) (found-passes (λ y. not (range_holds s n.name y)) n.ranges r found.1) in
      let key = parted_if (versions_now s n.name r) (results_of r) fails in
      phantom_key_of n r key.0 bad.1 found.1 (first_difference s n.name r (rising_results r range) key.0 key.1)

  -- ---- and one alone

  pub one_stale_read : (a b : StaleRead) → IsStaleRead j i tx a → IsStaleRead j i tx b → a ≡ b
  one_stale_read a b x y =
      let set : x.0 ≡ y.0 = some_is x.0 y.0 (sym x.2 ∙ y.2) in
      let read : x.1 ≡ y.1 = some_is x.1 y.1 (sym x.3 ∙ ap (λ (n : NsSet). find (λ z. not (read_holds (running j i).state n.name z)) n.reads) set ∙ y.3) in
      x.4 ∙ (λ t. stale_read j i (set t).name (read t)) ∙ sym y.4

  pub one_phantom_key : (a b : PhantomKey) → IsPhantomKey j i tx a → IsPhantomKey j i tx b → a ≡ b
  one_phantom_key a b x y =
      let s : State = (running j i).state in
      let set : x.0 ≡ y.0 = some_is x.0 y.0 (sym x.3 ∙ y.3) in
      let range : x.1 ≡ y.1 = some_is x.1 y.1 (sym x.4 ∙ ap (λ (n : NsSet). find (λ z. not (range_holds s n.name z)) n.ranges) set ∙ y.4) in
      let first = subst (λ (m : NsSet). IsFirstDifference (version_there s m.name x.1) (version_read x.1) y.2) (sym set)
      (subst (λ (r : Range). IsFirstDifference (version_there s y.0.name r) (version_read r) y.2) (sym range) y.5) in
      let key : x.2 ≡ y.2 = one_first_difference (version_there s x.0.name x.1) (version_read x.1) x.2 y.2 x.5 first in
      x.6 ∙ (λ t. phantom_key j i (set t).name (range t) (key t)) ∙ sym y.6

  -- ---- the writer

  pub stale_read_is_left : (x : StaleRead) (h : ℕ) → IsStaleRead j i tx x → x.writer ≡ Some h → IfSome x.there (λ v. v ≡ version_of j h)
  stale_read_is_left x h y e =
      let k : StateKey = (y.0.name, y.1.key) in
      let writer : last_below (writes_row j k) i ≡ Some h = sym (ap (λ (z : StaleRead). z.writer) y.4) ∙ e in
      subst (λ (v : Option Version). IfSome v (λ z. z ≡ version_of j h)) (sym (ap (λ (z : StaleRead). z.there) y.4))
      (written_version j k (last_below (writes_row j k) i) (get (running j i).state k) h (left_by j k i) writer)

  pub stale_read_is_old : (x : StaleRead) → IsStaleRead j i tx x → x.writer ≡ None → x.there ≡ version_in j.state (x.namespace, x.key)
  stale_read_is_old x y e =
      let k : StateKey = (y.0.name, y.1.key) in
      let writer : last_below (writes_row j k) i ≡ None = sym (ap (λ (z : StaleRead). z.writer) y.4) ∙ e in
      ap (λ (z : StaleRead). z.there) y.4
      ∙ unwritten_version j k (last_below (writes_row j k) i) (get (running j i).state k) (left_by j k i) writer
      ∙ sym (ap (λ (z : StaleRead). version_in j.state (z.namespace, z.key)) y.4)

  pub stale_read_comes_after : (x : StaleRead) (h : ℕ) → IsStaleRead j i tx x → x.writer ≡ Some h → h < i
  stale_read_comes_after x h y e = last_below-lt (writes_row j (y.0.name, y.1.key)) i h (sym (ap (λ (z : StaleRead). z.writer) y.4) ∙ e)

  -- ---- the writer of a key of a range

  -- what is said of the version of a key is so where the key lies outside what is compared, which has none
  where_compared : (P : Version → Type 0) (b : Bool) (v : Option Version) → IfSome v P → IfSome (cond b v None) P
  where_compared P true v h = h
  where_compared P false v h = tt

  pub phantom_is_left : (x : PhantomKey) (h : ℕ) → IsPhantomKey j i tx x → x.writer ≡ Some h → IfSome x.there (λ v. v ≡ version_of j h)
  phantom_is_left x h y e =
      let k : StateKey = (y.0.name, y.2) in
      let writer : last_below (writes_row j k) i ≡ Some h = sym (ap (λ (z : PhantomKey). z.writer) y.6) ∙ e in
      subst (λ (v : Option Version). IfSome v (λ z. z ≡ version_of j h)) (sym (ap (λ (z : PhantomKey). z.there) y.6))
      (where_compared (λ z. z ≡ version_of j h) (is_compared y.1 y.2) (version_in (running j i).state k)
      (written_version j k (last_below (writes_row j k) i) (get (running j i).state k) h (left_by j k i) writer))

  was_there : (k : StateKey) (v : Option Version) → v ≡ version_in j.state k → IfSome v (λ z. version_in j.state k ≡ Some z)
  was_there k None e = tt
  was_there k (Some z) e = sym e

  pub phantom_is_old : (x : PhantomKey) → IsPhantomKey j i tx x → x.writer ≡ None → IfSome x.there (λ v. version_in j.state (x.range.namespace, x.key) ≡ Some v)
  phantom_is_old x y e =
      let k : StateKey = (y.0.name, y.2) in
      let writer : last_below (writes_row j k) i ≡ None = sym (ap (λ (z : PhantomKey). z.writer) y.6) ∙ e in
      subst (λ (z : PhantomKey). IfSome z.there (λ v. version_in j.state (z.range.namespace, z.key) ≡ Some v)) (sym y.6)
      (where_compared (λ v. version_in j.state k ≡ Some v) (is_compared y.1 y.2) (version_in (running j i).state k)
      (was_there k (version_in (running j i).state k) (unwritten_version j k (last_below (writes_row j k) i) (get (running j i).state k) (left_by j k i) writer)))

  pub phantom_comes_after : (x : PhantomKey) (h : ℕ) → IsPhantomKey j i tx x → x.writer ≡ Some h → h < i
  phantom_comes_after x h y e = last_below-lt (writes_row j (y.0.name, y.2)) i h (sym (ap (λ (z : PhantomKey). z.writer) y.6) ∙ e)
