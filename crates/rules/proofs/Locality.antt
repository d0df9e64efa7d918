-- A verdict depends on no other candidate than those that it is said to depend on.
use Rattle.std.proofs.Common.{◌≡◌, ℕ, zero, suc, ◌<◌, ◌≤◌, Bool, true, false, cond, ◌&&◌, ◌||◌, not, List, [], ◌∷◌, map, Option, Some, None, refl, sym, ap, ◌∙◌, arith}
use Rattle.std.specs.Prelude.{option_map, IsSome}
use Rattle.std.specs.Str.{bytes_eq}
use Rattle.std.specs.List.{list_any, list_all}
use Rattle.std.specs.Option.{option_eq}
use Rattle.std.specs.Cmp.Lexicographic.{pointwise, bytes_decides}
use Rattle.std.specs.FinMap.{get}
use Rattle.transaction.specs.declared.transaction.Version.{Version}
use Rattle.transaction.specs.declared.transaction.Read.{Read}
use Rattle.transaction.specs.declared.transaction.Range.{Range}
use Rattle.transaction.specs.declared.transaction.NsSet.{NsSet}
use Rattle.transaction.specs.Same.{is_same_version}
use Rattle.policy.specs.Tree.{Tree}
use Rattle.policy.specs.Policies.{Policies}
use Rattle.rules.specs.declared.row.Row.{Row}
use Rattle.rules.specs.declared.read_verdict.ReadVerdict.TheVariants.{Good, Stale, Phantom}
use Rattle.rules.specs.State.{StateKey, State, is_same_key, is_among, version_in, policy_in}
use Rattle.rules.specs.Effect.{written_keys}
use Rattle.rules.specs.Endorsement.{may_write, meets, governing, has_writes}
use Rattle.rules.specs.Ranges.{is_compared, versions_now, results_of, is_same_result, range_holds}
use Rattle.rules.specs.Reads.{read_holds, set_verdict, or_next, first_fault}
use Rattle.rules.specs.Candidate.{Candidate, flagged, opened, updates}
use Rattle.rules.specs.Job.{Job, candidate_at, version_of, touched_by, operated_by, endorsement_by, reads_by}
use Rattle.rules.specs.Assignment.{Assignment, touched_under, state_under, endorsement_under, reads_under, version_under}
use Rattle.rules.specs.Depends.{set_looks_at, looks_at, EndorsementDepends, ReadsDepend, VersionDepends}
use Rattle.rules.specs.Sure.{Agrees, Sure}
use Rattle.rules.proofs.Booleans.{or-true, and-false}
use Rattle.rules.proofs.Keys.{same_key_is, same_as_itself}
use Rattle.rules.proofs.PerKey.{row_by, row_under, row_by-unwritten, version_under-by_row}
use Rattle.rules.proofs.Touched.{touched_under-step}
use Rattle.rules.proofs.Ranges.{find-versions_now, sorted-versions_now, same_versions}

-- ---- keys among keys

-- a test that a key of the list passes
pub passed_by : (test : StateKey → Bool) (k : StateKey) (ks : List StateKey) → test k ≡ true → is_among k ks ≡ true → list_any test ks ≡ true
passed_by test k [] own m = absurd cc
passed_by test k (x ∷ ks) own m = by (is_same_key k x) refl m (passed_by test k ks own)
  where
    by : (b : Bool) → is_same_key k x ≡ b → (b || is_among k ks) ≡ true → (is_among k ks ≡ true → list_any test ks ≡ true) → (test x || list_any test ks) ≡ true
    by true e m rest = ap (λ (b : Bool). b || list_any test ks) (ap test (sym (same_key_is k x e)) ∙ own)
    by false e m rest = ap (λ (b : Bool). test x || b) (rest m) ∙ or-true (test x)

-- tests that agree on each key of a list
pub all_same : (p q : StateKey → Bool) (ks : List StateKey) → ((k : StateKey) → is_among k ks ≡ true → p k ≡ q k) → list_all p ks ≡ list_all q ks
all_same p q [] h = refl
all_same p q (k ∷ ks) h =
    let head : p k ≡ q k = h k (ap (λ (b : Bool). b || is_among k ks) (same_as_itself k)) in
    let rest = all_same p q ks (λ x m. h x (ap (λ (b : Bool). is_same_key x k || b) m ∙ or-true (is_same_key x k))) in
    λ i. head i && rest i

-- ---- endorsements

-- one candidate more, which is called the same or doesn't have the key
one_touch : (has a b before before' : Bool) → (has ≡ true → a ≡ b) → before ≡ before' → ((a && has) || before) ≡ ((b && has) || before')
one_touch true a b before before' h e = λ i. (h refl i && true) || e i
one_touch false a b before before' h e = ap (λ (x : Bool). x || before) (and-false a) ∙ e ∙ sym (ap (λ (x : Bool). x || before') (and-false b))

touched_same : (j : Job) (y z : Assignment) (i : ℕ) (k : StateKey) → is_among k (operated_by (candidate_at j i)) ≡ true → ((h : ℕ) → EndorsementDepends j i h → y h ≡ z h)
    → (n : ℕ) → n ≤ i → is_among k (touched_under j y n) ≡ is_among k (touched_under j z n)
unfolding touched_under
touched_same j y z i k own agree zero le = refl
touched_same j y z i k own agree (suc n) le =
    touched_under-step j y k n
    ∙ one_touch (is_among k (touched_by (candidate_at j n))) (y n) (z n) (is_among k (touched_under j y n)) (is_among k (touched_under j z n))
    (λ m. agree n (le, passed_by (λ x. is_among x (operated_by (candidate_at j i))) k (touched_by (candidate_at j n)) own m))
    (touched_same j y z i k own agree n (omega arith))
    ∙ sym (touched_under-step j z k n)

endorsed_same : (a : Option Tree) (d : Policies) (s : State) (t u : List StateKey) (c : Candidate) → ((k : StateKey) → is_among k (operated_by c) ≡ true → is_among k t ≡ is_among k u)
    → endorsement_by a d s t c ≡ endorsement_by a d s u c
endorsed_same a d s t u (flagged flag) h = refl
endorsed_same a d s t u (updates update signers) h = refl
endorsed_same a d s t u (opened tx signers) h =
    ap (λ (b : Bool). b && (has_writes tx tx.chaincode || meets signers (get d tx.chaincode))) (
    all_same (may_write d s t signers) (may_write d s u signers) (written_keys tx) (λ k m. ap (λ (b : Bool). not b && meets signers (governing d k.0 (policy_in s k))) (h k m)))

-- assignments that agree on what an endorsement depends on give it the same verdict
pub endorsement_by_dependencies : (j : Job) (y z : Assignment) (i : ℕ) → ((h : ℕ) → EndorsementDepends j i h → y h ≡ z h) → endorsement_under j y i ≡ endorsement_under j z i
endorsement_by_dependencies j y z i agree = endorsed_same j.admin j.definitions j.state (touched_under j y i) (touched_under j z i) (candidate_at j i) (λ k own. touched_same j y z i k own agree i (omega arith))

-- ---- versions

-- one candidate more, which is called the same or doesn't write the key
one_row : (v : Version) (c : Candidate) (k : StateKey) (row other : Option Row) (a b : Bool) → (is_among k (operated_by c) ≡ true → a ≡ b) → row ≡ other → cond a (row_by v c k row) row ≡ cond b (row_by v c k other) other
one_row v c k row other a b h e = by (is_among k (operated_by c)) refl
  where
    still : (x : Bool) (r : Option Row) → row_by v c k r ≡ r → cond x (row_by v c k r) r ≡ r
    still true r s = s
    still false r s = refl

    by : (among : Bool) → is_among k (operated_by c) ≡ among → cond a (row_by v c k row) row ≡ cond b (row_by v c k other) other
    by true m = λ i. cond (h m i) (row_by v c k (e i)) (e i)
    by false m = still a row (row_by-unwritten v c k row m) ∙ e ∙ sym (still b other (row_by-unwritten v c k other m))

row_same : (j : Job) (y z : Assignment) (k : StateKey) (i : ℕ) → ((h : ℕ) → VersionDepends j k i h → y h ≡ z h) → (n : ℕ) → n ≤ i → row_under j y k n ≡ row_under j z k n
unfolding row_under
row_same j y z k i agree zero le = refl
row_same j y z k i agree (suc n) le =
    one_row (version_of j n) (candidate_at j n) k (row_under j y k n) (row_under j z k n) (y n) (z n) (λ m. agree n (le, m)) (row_same j y z k i agree n (omega arith))

-- assignments that agree on who writes a key before i give it the same row
pub row_by_dependencies : (j : Job) (y z : Assignment) (k : StateKey) (i : ℕ) → ((h : ℕ) → VersionDepends j k i h → y h ≡ z h) → row_under j y k i ≡ row_under j z k i
row_by_dependencies j y z k i agree = row_same j y z k i agree i (omega arith)

-- and the same version
pub version_by_dependencies : (j : Job) (y z : Assignment) (k : StateKey) (i : ℕ) → ((h : ℕ) → VersionDepends j k i h → y h ≡ z h) → version_under j k y i ≡ version_under j k z i
version_by_dependencies j y z k i agree =
    version_under-by_row j k y i ∙ ap (option_map (λ (row : Row). row.version)) (row_by_dependencies j y z k i agree) ∙ sym (version_under-by_row j k z i)

-- ---- reads

-- two states that agree on the versions of the keys that are looked at
module _ (s t : State) where
  abbrev Agree : StateKey → Type 0
  Agree k = version_in s k ≡ version_in t k

  range_same : (namespace : List ℕ) (r : Range) → ((q : List ℕ) → is_compared r q ≡ true → Agree (namespace, q)) → range_holds s namespace r ≡ range_holds t namespace r
  range_same namespace r h =
      ap (λ (l : List (List ℕ × Version)). pointwise is_same_result l (results_of r)) (
      same_versions (versions_now s namespace r) (versions_now t namespace r) (sorted-versions_now s namespace r) (sorted-versions_now t namespace r) (λ q.
      find-versions_now s namespace r q ∙ by q (is_compared r q) refl ∙ sym (find-versions_now t namespace r q)))
    where
      by : (q : List ℕ) (b : Bool) → is_compared r q ≡ b → cond b (version_in s (namespace, q)) None ≡ cond b (version_in t (namespace, q)) None
      by q true c = h q c
      by q false c = refl

  reads_same : (namespace : List ℕ) (rs : List Read) → ((q : List ℕ) → list_any (λ r. bytes_eq q r.key) rs ≡ true → Agree (namespace, q)) → list_all (read_holds s namespace) rs ≡ list_all (read_holds t namespace) rs
  reads_same namespace [] h = refl
  reads_same namespace (r ∷ rs) h =
      let here : version_in s (namespace, r.key) ≡ version_in t (namespace, r.key) = h r.key (ap (λ (b : Bool). b || list_any (λ x. bytes_eq r.key x.key) rs) ((bytes_decides r.key r.key).1 refl)) in
      let rest = reads_same namespace rs (λ q m. h q (ap (λ (b : Bool). bytes_eq q r.key || b) m ∙ or-true (bytes_eq q r.key))) in
      λ i. option_eq is_same_version (here i) r.version && rest i

  ranges_same : (namespace : List ℕ) (rs : List Range) → ((q : List ℕ) → list_any (λ r. is_compared r q) rs ≡ true → Agree (namespace, q)) → list_all (range_holds s namespace) rs ≡ list_all (range_holds t namespace) rs
  ranges_same namespace [] h = refl
  ranges_same namespace (r ∷ rs) h =
      let here = range_same namespace r (λ q c. h q (ap (λ (b : Bool). b || list_any (λ x. is_compared x q) rs) c)) in
      let rest = ranges_same namespace rs (λ q m. h q (ap (λ (b : Bool). is_compared r q || b) m ∙ or-true (is_compared r q))) in
      λ i. here i && rest i

  set_same : (n : NsSet) → ((k : StateKey) → set_looks_at n k ≡ true → Agree k) → set_verdict s n ≡ set_verdict t n
  set_same n h =
      let own : bytes_eq n.name n.name ≡ true = (bytes_decides n.name n.name).1 refl in
      let rs = reads_same n.name n.reads (λ q m. h (n.name, q) (rw (own, m) refl)) in
      let gs = ranges_same n.name n.ranges (λ q m. h (n.name, q) (rw (own, m) (or-true (list_any (λ r. bytes_eq q r.key) n.reads)))) in
      λ i. cond (rs i) (cond (gs i) Good Phantom) Stale

  all_sets_same : (sets : List NsSet) → ((k : StateKey) → list_any (λ n. set_looks_at n k) sets ≡ true → Agree k) → first_fault (map (set_verdict s) sets) ≡ first_fault (map (set_verdict t) sets)
  all_sets_same [] h = refl
  all_sets_same (n ∷ sets) h =
      let here = set_same n (λ k m. h k (ap (λ (b : Bool). b || list_any (λ x. set_looks_at x k) sets) m)) in
      let rest = all_sets_same sets (λ k m. h k (ap (λ (b : Bool). set_looks_at n k || b) m ∙ or-true (set_looks_at n k))) in
      λ i. or_next (here i) (rest i)

  -- give a candidate's reads one verdict
  pub reads_by_versions : (c : Candidate) → ((k : StateKey) → looks_at c k ≡ true → Agree k) → reads_by s c ≡ reads_by t c
  reads_by_versions (flagged flag) h = refl
  reads_by_versions (updates u signers) h = refl
  reads_by_versions (opened tx signers) h = all_sets_same tx.namespaces h

-- an earlier writer of a key that is looked at is one that the reads depend on
pub reads_depend_on_writers : (j : Job) (k : StateKey) (i h : ℕ) → looks_at (candidate_at j i) k ≡ true → VersionDepends j k i h → ReadsDepend j i h
reads_depend_on_writers j k i h looks d = (d.0, passed_by (looks_at (candidate_at j i)) k (operated_by (candidate_at j h)) looks d.1)

-- assignments that agree on what reads depend on give them the same verdict
pub reads_by_dependencies : (j : Job) (y z : Assignment) (i : ℕ) → ((h : ℕ) → ReadsDepend j i h → y h ≡ z h) → reads_under j y i ≡ reads_under j z i
reads_by_dependencies j y z i agree =
    reads_by_versions (state_under j y i) (state_under j z i) (candidate_at j i) (λ k looks. version_by_dependencies j y z k i (λ h d. agree h (reads_depend_on_writers j k i h looks d)))

-- ---- what is known of all dependencies makes a verdict sure

module _ (known : ℕ → Option Bool) (i : ℕ) where
  agree_if_known : (y z : Assignment) (h : ℕ) → Agrees known i y → Agrees known i z → h < i → IsSome (known h) → y h ≡ z h
  agree_if_known y z h a b lt some = by (known h) refl some
    where
      by : (o : Option Bool) → known h ≡ o → IsSome o → y h ≡ z h
      by None e n = absurd cc
      by (Some v) e n = a h v lt e ∙ sym (b h v lt e)

  pub sure_endorsement_if_known : (j : Job) (y : Assignment) → Agrees known i y → ((h : ℕ) → EndorsementDepends j i h → IsSome (known h)) → Sure (endorsement_under j) known i (endorsement_under j y i)
  sure_endorsement_if_known j y a all z b = sym (endorsement_by_dependencies j y z i (λ h d. agree_if_known y z h a b d.0 (all h d)))

  pub sure_reads_if_known : (j : Job) (y : Assignment) → Agrees known i y → ((h : ℕ) → ReadsDepend j i h → IsSome (known h)) → Sure (reads_under j) known i (reads_under j y i)
  sure_reads_if_known j y a all z b = sym (reads_by_dependencies j y z i (λ h d. agree_if_known y z h a b d.0 (all h d)))

  pub sure_version_if_known : (j : Job) (k : StateKey) (y : Assignment) → Agrees known i y → ((h : ℕ) → VersionDepends j k i h → IsSome (known h)) → Sure (version_under j k) known i (version_under j k y i)
  sure_version_if_known j k y a all z b = sym (version_by_dependencies j y z k i (λ h d. agree_if_known y z h a b d.0 (all h d)))
