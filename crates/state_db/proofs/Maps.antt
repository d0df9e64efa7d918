-- Edits of rows in order, as changes of the state.
use Rattle.std.proofs.Common.{◌≡◌, Bool, true, false, cond, not, List, [], ◌∷◌, Some, None, Result, Ok, Err, refl, sym, ap, ◌∙◌}
use Rattle.std.specs.Prelude.{OnOk, IfOk}
use Rattle.std.specs.declared.cmp.Ordering.{Ordering}
use Rattle.std.specs.Ordering.{eq_by_cmp, is_eq}
use Rattle.std.specs.Cmp.{alike_right, eq_by_cmp_equiv}
use Rattle.std.specs.FinMap.{remove, find, from_sorted, same_map, get-from_sorted, get-remove}
use Rattle.std.specs.FinMap.Entries.{put, find-where_key, is_sorted-where_key}
use Rattle.rules.specs.declared.row.Row.{Row}
use Rattle.rules.specs.State.{StateKey, State, ChangeOf, key_cmp, with_changes}
use Rattle.rules.proofs.Keys.{key_cmp_total, key_cmp-IsAntisymmetric}
use Rattle.state_db.specs.Search.{IsSorted}
use Rattle.state_db.specs.Pages.{RowList}
use Rattle.state_db.specs.Edits.{without, edited}
use Rattle.state_db.proofs.Tests.{told, shown}
use Rattle.state_db.proofs.Batches.{put_is, put_sorted}

turned : {A : Type 0} (b : Bool) (x y : A) → cond (not b) x y ≡ cond b y x
turned true x y = refl
turned false x y = refl

without_sorted : (es : RowList) (k : StateKey) → IsSorted es → IsSorted (without k es)
without_sorted es k h = shown _ (is_sorted-where_key key_cmp (λ x. not (eq_by_cmp key_cmp k x)) es (told _ h))

without_is : (es : RowList) (k : StateKey) → IsSorted es → from_sorted {R = key_cmp} (without k es) ≡ remove (from_sorted {R = key_cmp} es) k
without_is es k h =
    same_map key_cmp_total key_cmp-IsAntisymmetric (from_sorted (without k es)) (remove (from_sorted es) k) (λ q.
    get-from_sorted key_cmp (without k es) q (told _ (without_sorted es k h))
    ∙ find-where_key key_cmp (λ x. not (eq_by_cmp key_cmp k x)) q (λ x t. ap (λ (o : Ordering). not (is_eq o)) (sym (alike_right key_cmp_total q x k t))) es
    ∙ turned (eq_by_cmp key_cmp k q) (find key_cmp q es) None
    ∙ (λ i. cond ((eq_by_cmp_equiv key_cmp_total).symm k q i) None (sym (get-from_sorted key_cmp es q (told _ h)) i))
    ∙ sym (get-remove key_cmp_total (from_sorted es) k q))

pub edited_is : (es : RowList) (cs : List (ChangeOf Row)) → IsSorted es → from_sorted {R = key_cmp} (edited es cs) ≡ with_changes (from_sorted es) cs
unfolding with_changes
edited_is es [] h = refl
edited_is es ((k, Some v) ∷ cs) h = edited_is (put key_cmp k v es) cs (put_sorted es k v h) ∙ ap (λ (m : State). with_changes m cs) (put_is es k v h)
edited_is es ((k, None) ∷ cs) h = edited_is (without k es) cs (without_sorted es k h) ∙ ap (λ (m : State). with_changes m cs) (without_is es k h)

-- ---- answers that want of memory may take the place of

pub on_ok : {A E P Q : Type 0} (r : Result A E) → (P → Q) → OnOk r P → OnOk r Q
on_ok (Ok x) f h = f h
on_ok (Err e) f h = tt

pub if_ok : {A E : Type 0} (P Q : A → Type 0) (r : Result A E) → ((x : A) → P x → Q x) → IfOk r P → IfOk r Q
if_ok P Q (Ok x) f h = f x h
if_ok P Q (Err e) f h = tt
