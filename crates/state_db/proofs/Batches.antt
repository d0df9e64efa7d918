-- A batch's changes, as changes of every state.
use Rattle.std.proofs.Common.{◌≡◌, Bool, true, false, cond, List, [], Option, Some, Result, Ok, Err, length, refl, sym, ap, ◌∙◌}
use Rattle.std.specs.Prelude.{if◌then◌else◌, unwrap_or, OnOk, OnErr}
use Rattle.std.specs.FinMap.{get, insert, empty, empty_of_len, len-entries, entries, entries_sorted, from_sorted, is_sorted, entries-from_sorted, entries-insert, get-entries, get-insert, same_map, same_entries_map}
use Rattle.std.specs.FinMap.Entries.{put, is_sorted-put}
use Rattle.rules.specs.declared.row.Row.{Row}
use Rattle.rules.specs.State.{StateKey, State, ChangeOf, key_cmp, is_same_key, set_at}
use Rattle.rules.proofs.Keys.{key_cmp_total, key_cmp-IsAntisymmetric, key_ties}
use Rattle.rules.proofs.Changes.{get-set_at}
use Rattle.rules.proofs.Differing.{get-with_sorted}
use Rattle.state_db.specs.Search.{Keyed, IsSorted}
use Rattle.state_db.specs.Batch.{Changes, changed}
use Rattle.state_db.proofs.Tests.{told, shown}

-- ---- the list of a batch

pub put_is : {X : Type 0} (es : List (Keyed X)) (k : StateKey) (v : X) → IsSorted es → from_sorted {R = key_cmp} (put key_cmp k v es) ≡ insert (from_sorted {R = key_cmp} es) k v
put_is es k v h =
    same_entries_map (from_sorted (put key_cmp k v es)) (insert (from_sorted es) k v)
    (entries-from_sorted key_cmp (put key_cmp k v es) (is_sorted-put key_cmp key_cmp_total k v es (told _ h))
    ∙ ap (put key_cmp k v) (sym (entries-from_sorted key_cmp es (told _ h)))
    ∙ sym (entries-insert key_cmp_total (from_sorted es) k v))

pub put_sorted : {X : Type 0} (es : List (Keyed X)) (k : StateKey) (v : X) → IsSorted es → IsSorted (put key_cmp k v es)
put_sorted es k v h = shown _ (is_sorted-put key_cmp key_cmp_total k v es (told _ h))

-- ---- what the changes make of a state, key by key

pub get_changed : (s : State) (changes : Changes) (q : StateKey) → get (changed s changes) q ≡ unwrap_or (get changes q) (get s q)
get_changed s changes q = get-with_sorted s (entries changes) q (shown _ (entries_sorted changes)) ∙ ap (λ (o : Option (Option Row)). unwrap_or o (get s q)) (sym (get-entries changes q))

-- one change more
pub changed_more : (s : State) (changes : Changes) (k : StateKey) (v : Option Row) → changed s (insert changes k v) ≡ set_at (changed s changes) k v
changed_more s changes k v =
    same_map key_cmp_total key_cmp-IsAntisymmetric (changed s (insert changes k v)) (set_at (changed s changes) k v) (λ q.
    get_changed s (insert changes k v) q
    ∙ ap (λ (o : Option (Option Row)). unwrap_or o (get s q)) (get-insert key_cmp_total changes k v q)
    ∙ ap (λ (b : Bool). unwrap_or (cond b (Some v) (get changes q)) (get s q)) (key_ties q k)
    ∙ by q (is_same_key q k)
    ∙ sym (get-set_at (changed s changes) k v q))
  where
    by : (q : StateKey) (b : Bool) → unwrap_or (cond b (Some v) (get changes q)) (get s q) ≡ (if b then v else get (changed s changes) q)
    by q true = refl
    by q false = sym (get_changed s changes q)

-- ---- a change of a batch, where memory may be refused

pub nothing : {X : Type 0} → from_sorted {K = StateKey} {X = X} {R = key_cmp} [] ≡ empty
nothing = empty_of_len (from_sorted []) (len-entries (from_sorted []) ∙ ap length (entries-from_sorted key_cmp [] tt))

module _ (E : Type 0) (es fs : List (ChangeOf Row)) (h : IsSorted es) where
  -- the list stays in order
  pub set_sorted : (edit : ChangeOf Row) (r : Result (Unit {0}) E) → OnOk r (fs ≡ put key_cmp edit.0 edit.1 es) → OnErr r (fs ≡ es) → IsSorted fs
  set_sorted edit (Ok x) ok err = ap (is_sorted key_cmp) ok ∙ put_sorted es edit.0 edit.1 h
  set_sorted edit (Err x) ok err = ap (is_sorted key_cmp) err ∙ h

  module _ (m : Changes) (c edit : ChangeOf Row) (is : from_sorted es ≡ m) (same : edit ≡ c) where
    set_is : fs ≡ put key_cmp edit.0 edit.1 es → from_sorted fs ≡ insert m c.0 c.1
    set_is e = ap (from_sorted {R = key_cmp}) e ∙ put_is es edit.0 edit.1 h ∙ (λ i. insert (is i) (same i).0 (same i).1)

    pub set_ok : (r : Result (Unit {0}) E) → OnOk r (fs ≡ put key_cmp edit.0 edit.1 es) → OnOk r (from_sorted fs ≡ insert m c.0 c.1)
    set_ok (Ok x) ok = set_is ok
    set_ok (Err x) ok = tt

    pub set_made : (r : Result (Unit {0}) E) → OnOk r (fs ≡ put key_cmp edit.0 edit.1 es) → OnOk r ((s : State) → changed s (from_sorted fs) ≡ set_at (changed s m) c.0 c.1)
    set_made (Ok x) ok = λ s. ap (changed s) (set_is ok) ∙ changed_more s m c.0 c.1
    set_made (Err x) ok = tt
