-- The version of a key under an assignment is its version over the operations on it.
use Rattle.std.proofs.Common.{◌≡◌, ℕ, zero, suc, ◌<◌, ◌≤◌, Bool, true, false, cond, List, ◌++◌, subst, Option, Some, None, refl, sym, ap, ◌∙◌, arith, All}
use Rattle.std.specs.Prelude.{option_map, option_to_list}
use Rattle.std.proofs.lemmas.List.Elements.{All-cons, All-nil, All-weaker, All-contains}
use Rattle.transaction.specs.declared.transaction.Version.{Version}
use Rattle.transaction.specs.declared.transaction.Write.{Write}
use Rattle.transaction.specs.declared.transaction.PolicyWrite.{PolicyWrite}
use Rattle.policy.specs.Tree.{Tree}
use Rattle.rules.specs.declared.row.Row.{Row}
use Rattle.rules.specs.State.{StateKey, version_in, is_among}
use Rattle.rules.specs.Effect.{write_of, policy_write_of, row_after, policy_after, policy_left, written_keys}
use Rattle.rules.specs.Candidate.{Candidate, flagged, opened, updates}
use Rattle.rules.specs.Job.{Job, candidate_at, version_of, operated_by}
use Rattle.rules.specs.Assignment.{Assignment, version_under}
use Rattle.rules.specs.Depends.{VersionDepends}
use Rattle.rules.proofs.Effects.{write_of-unwritten, policy_write_of-unwritten}
use Rattle.rules.proofs.PerKey.{row_by, row_under, version_under-by_row}
use Rattle.key_chains.specs.declared.operation.Kind.{Kind}
use Rattle.key_chains.specs.declared.operation.Operation.{Operation}
use Rattle.key_chains.specs.Operations.{value_kind, kind_from, kind_by, operations}
use Rattle.mvcc.specs.Versions.{noted_over, made_by, version_over, IsOperator}

abbrev version_of_row : Option Row → Option Version
version_of_row row = option_map (λ r. r.version) row

-- what an operation makes, where there is one and its candidate is called yes
abbrev made_where : Bool → Option Kind → Version → Option Version → Option Version
made_where counts None v older = older
made_where counts (Some kind) v older = cond counts (made_by kind v older) older

-- ---- one candidate

still : (counts : Bool) (row : Option Row) → version_of_row (cond counts row row) ≡ version_of_row row
still true row = refl
still false row = refl

by_value : (counts : Bool) (v : Version) (value : Option (List ℕ)) (policy : Option Tree) (row : Option Row)
    → version_of_row (cond counts (option_map (λ x. record { value = x; version = v; policy = policy }) value) row) ≡ cond counts (made_by (value_kind value) v (version_of_row row)) (version_of_row row)
by_value true v (Some x) policy row = refl
by_value true v None policy row = refl
by_value false v value policy row = refl

by_policy : (counts : Bool) (v : Version) (policy : Option Tree) (row : Option Row)
    → version_of_row (cond counts (option_map (λ r. record { value = r.value; version = v; policy = policy }) row) row) ≡ cond counts (noted_over (Some v) (version_of_row row)) (version_of_row row)
by_policy true v policy (Some r) = refl
by_policy true v policy None = refl
by_policy false v policy row = refl

by_writes : (counts : Bool) (v : Version) (w : Option Write) (p : Option PolicyWrite) (row : Option Row)
    → version_of_row (cond counts (row_after v w p row) row) ≡ made_where counts (kind_from w p) v (version_of_row row)
by_writes counts v (Some w) p row = by_value counts v w.value (policy_after p row) row
by_writes counts v None (Some p) row = by_policy counts v (policy_left p) row
by_writes counts v None None row = still counts row

by_candidate : (counts : Bool) (v : Version) (c : Candidate) (k : StateKey) (row : Option Row)
    → version_of_row (cond counts (row_by v c k row) row) ≡ made_where counts (kind_by c k) v (version_of_row row)
by_candidate counts v (flagged flag) k row = still counts row
by_candidate counts v (updates u signers) k row = still counts row
by_candidate counts v (opened tx signers) k row = by_writes counts v (write_of tx k) (policy_write_of tx k) row

-- the operation of one candidate, on top of those of earlier ones
over_one : (number n : ℕ) (called : Assignment) (kind : Option Kind) (os : List Operation) (before : Option Version)
    → version_over number called (option_to_list (option_map (λ x. record { tx = n; kind = x }) kind) ++ os) before ≡ made_where (called n) kind (record { block = number; tx = n }) (version_over number called os before)
over_one number n called None os before = refl
over_one number n called (Some kind) os before = refl

-- ---- all before i

by_row : (j : Job) (k : StateKey) (called : Assignment) (i : ℕ) → version_of_row (row_under j called k i) ≡ version_over j.number called (operations j.candidates k i) (version_in j.state k)
unfolding row_under operations
by_row j k called zero = refl
by_row j k called (suc n) =
    by_candidate (called n) (version_of j n) (candidate_at j n) k (row_under j called k n)
    ∙ ap (made_where (called n) (kind_by (candidate_at j n) k) (version_of j n)) (by_row j k called n)
    ∙ sym (over_one j.number n called (kind_by (candidate_at j n) k) (operations j.candidates k n) (version_in j.state k))

pub version_by_operations : (j : Job) (k : StateKey) (called : Assignment) (i : ℕ) → version_under j k called i ≡ version_over j.number called (operations j.candidates k i) (version_in j.state k)
version_by_operations j k called i = version_under-by_row j k called i ∙ by_row j k called i

-- ---- whose the operations are

writes_where : (c : Candidate) (k : StateKey) (kind : Kind) → kind_by c k ≡ Some kind → is_among k (operated_by c) ≡ true
writes_where (flagged flag) k kind e = absurd cc
writes_where (updates u signers) k kind e = absurd cc
writes_where (opened tx signers) k kind e = by (is_among k (written_keys tx)) refl
  where
    by : (b : Bool) → is_among k (written_keys tx) ≡ b → is_among k (written_keys tx) ≡ true
    by true among = among
    by false none =
        let nothing : kind_from (write_of tx k) (policy_write_of tx k) ≡ None = rw (write_of-unwritten tx k none, policy_write_of-unwritten tx k none) refl in
        absurd (cc (nothing, e))

-- candidates before m that write the key
abbrev IsOf : Job → StateKey → ℕ → Operation → Type 0
IsOf j k m o = (o.tx < m) × (is_among k (operated_by (candidate_at j o.tx)) ≡ true)

one_more : (j : Job) (k : StateKey) (m n : ℕ) → n < m → All (IsOf j k m) (operations j.candidates k n) → (kind : Option Kind) → kind_by (candidate_at j n) k ≡ kind
    → All (IsOf j k m) (option_to_list (option_map (λ x. record { tx = n; kind = x }) kind) ++ operations j.candidates k n)
one_more j k m n lt rest None e = rest
one_more j k m n lt rest (Some kind) e = All-cons (IsOf j k m) (record { tx = n; kind = kind }) (operations j.candidates k n) (lt, writes_where (candidate_at j n) k kind e) rest

all_to : (j : Job) (k : StateKey) (m i : ℕ) → i ≤ m → All (IsOf j k m) (operations j.candidates k i)
unfolding operations
all_to j k m zero le = All-nil (IsOf j k m)
all_to j k m (suc n) le = one_more j k m n le (all_to j k m n (omega arith)) (kind_by (candidate_at j n) k) refl

pub earlier_operations : (j : Job) (k : StateKey) (i : ℕ) → All (λ o. o.tx < i) (operations j.candidates k i)
earlier_operations j k i = All-weaker (IsOf j k i) (λ o. o.tx < i) (λ o of. of.0) (operations j.candidates k i) (all_to j k i i (omega arith))

-- so the version depends on each of them
pub depends_on_operators : (j : Job) (k : StateKey) (i h : ℕ) → IsOperator h (operations j.candidates k i) → VersionDepends j k i h
depends_on_operators j k i h has =
    subst (λ (n : ℕ). VersionDepends j k i n) has.is_its (All-contains (IsOf j k i) (operations j.candidates k i) has.operation (all_to j k i i (omega arith)) has.is_among)
