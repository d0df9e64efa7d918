-- Lists in the order of their keys: what stands before a key, and what has it.
use Rattle.std.proofs.Common.{◌≡◌, ℕ, zero, suc, ◌-◌, ◌<◌, ◌≤◌, Bool, true, false, cond, List, [], ◌∷◌, ◌++◌, ◌&&◌, ◌||◌, length, get_or, Option, Some, None, refl, sym, ap, ◌∙◌, arith}
use Rattle.std.specs.Prelude.{if◌then◌else◌}
use Rattle.std.specs.declared.cmp.Ordering.{Ordering}
use Rattle.std.specs.declared.cmp.Ordering.TheVariants.{Less, Equal, Greater}
use Rattle.std.specs.Ordering.{is_lt, is_eq, eq_by_cmp, ordering_reverse}
use Rattle.std.specs.List.{list_all, list_any}
use Rattle.std.specs.Cmp.{eq_by_cmp_equiv}
use Rattle.std.specs.FinMap.{find, is_sorted}
use Rattle.std.specs.FinMap.Entries.{below_all}
use Rattle.rules.specs.State.{StateKey, key_cmp}
use Rattle.rules.proofs.Booleans.{both_true}
use Rattle.rules.proofs.Keys.{key_cmp_total}
use Rattle.state_db.specs.Search.{Keyed, IsSorted, is_below, leading, Falls, if_it}
use Rattle.state_db.proofs.Tests.{is_Less, second_false}

pub any_append : {Y : Type 0} (test : Y → Bool) (xs ys : List Y) → list_any test (xs ++ ys) ≡ false → list_any test ys ≡ false
any_append test [] ys e = e
any_append test (x ∷ xs) ys e = any_append test xs ys (second_false (test x) (list_any test (xs ++ ys)) e)

pub all_lead : {Y : Type 0} (test : Y → Bool) (es : List Y) → list_all test es ≡ true → leading test es ≡ length es
all_lead test [] h = refl
all_lead test (e ∷ es) h =
    let parts = both_true (test e) (list_all test es) h in
    ap (λ (b : Bool). if b then suc (leading test es) else 0) parts.0 ∙ ap suc (all_lead test es parts.1)

pub turned : (k q : StateKey) → eq_by_cmp key_cmp q k ≡ is_eq (key_cmp k q)
turned k q = (eq_by_cmp_equiv key_cmp_total).symm q k

pub alone : (b : Bool) → b ≡ (b && true)
alone true = refl
alone false = refl

module _ {X : Type 0} where
  -- ---- parts of a list in order

  below_front : (k : StateKey) (ls rs : List (Keyed X)) → below_all key_cmp k (ls ++ rs) ≡ true → below_all key_cmp k ls ≡ true
  below_front k [] rs h = refl
  below_front k (a ∷ ls) rs h =
      let parts = both_true (is_lt (key_cmp k a.0)) (below_all key_cmp k (ls ++ rs)) h in
      (λ i. parts.0 i && below_front k ls rs parts.1 i)

  pub sorted_front : (ls rs : List (Keyed X)) → IsSorted (ls ++ rs) → IsSorted ls
  sorted_front [] rs h = refl
  sorted_front (a ∷ ls) rs h =
      let parts = both_true (below_all key_cmp a.0 (ls ++ rs)) (is_sorted key_cmp (ls ++ rs)) h in
      (λ i. below_front a.0 ls rs parts.0 i && sorted_front ls rs parts.1 i)

  pub sorted_back : (ls rs : List (Keyed X)) → IsSorted (ls ++ rs) → IsSorted rs
  sorted_back [] rs h = h
  sorted_back (a ∷ ls) rs h = sorted_back ls rs ((both_true (below_all key_cmp a.0 (ls ++ rs)) (is_sorted key_cmp (ls ++ rs)) h).1)

  -- ---- what stands before a key

  -- what stands behind one that isn't before the key isn't either
  above : (k : StateKey) (e x : Keyed X) → is_lt (key_cmp e.0 x.0) ≡ true → is_below k e ≡ false → is_below k x ≡ false
  above k e x lt fails = by (is_below k x) refl
    where
      by : (b : Bool) → is_below k x ≡ b → b ≡ false
      by true s = absurd (let t : is_below k e ≡ true = ap is_lt (key_cmp_total.trans e.0 x.0 k (is_Less (key_cmp e.0 x.0) lt) (is_Less (key_cmp x.0 k) s)) in let wrong : false ≡ true = sym fails ∙ t in cc)
      by false s = refl

  pub none_below : (k : StateKey) (e : Keyed X) (es : List (Keyed X)) → below_all key_cmp e.0 es ≡ true → is_below k e ≡ false → list_any (is_below k) es ≡ false
  none_below k e [] h fails = refl
  none_below k e (x ∷ es) h fails =
      let parts = both_true (is_lt (key_cmp e.0 x.0)) (below_all key_cmp e.0 es) h in
      (λ i. above k e x parts.0 fails i || none_below k e es parts.1 fails i)

  pub falls_sorted : (k : StateKey) (es : List (Keyed X)) → IsSorted es → Falls (is_below k) es
  falls_sorted k [] h = tt
  falls_sorted k (e ∷ es) h =
      let parts = both_true (below_all key_cmp e.0 es) (is_sorted key_cmp es) h in
      (none_below k e es parts.0, falls_sorted k es parts.1)

  -- behind a part that isn't all before the key, nothing is
  pub none_behind : (k : StateKey) (ls rs : List (Keyed X)) → IsSorted (ls ++ rs) → list_all (is_below k) ls ≡ false → list_any (is_below k) rs ≡ false
  none_behind k [] rs h e = absurd cc
  none_behind k (a ∷ ls) rs h e = by (is_below k a) refl (none_behind k ls rs)
    where
      parts : (below_all key_cmp a.0 (ls ++ rs) ≡ true) × (is_sorted key_cmp (ls ++ rs) ≡ true)
      parts = both_true (below_all key_cmp a.0 (ls ++ rs)) (is_sorted key_cmp (ls ++ rs)) h

      by : (b : Bool) → is_below k a ≡ b → (IsSorted (ls ++ rs) → list_all (is_below k) ls ≡ false → list_any (is_below k) rs ≡ false) → list_any (is_below k) rs ≡ false
      by true s r = r parts.1 (ap (λ (b : Bool). b && list_all (is_below k) ls) (sym s) ∙ e)
      by false s r = any_append (is_below k) ls rs (none_below k a (ls ++ rs) parts.0 s)

  -- where all behind the first stand before the key, it does too
  pub others_decide : (k : StateKey) (e f : Keyed X) (es : List (Keyed X)) → IsSorted (e ∷ f ∷ es) → list_all (is_below k) (f ∷ es) ≡ list_all (is_below k) (e ∷ f ∷ es)
  others_decide k e f es h = by (is_below k e) refl (list_all (is_below k) (f ∷ es)) refl
    where
      by : (b : Bool) → is_below k e ≡ b → (c : Bool) → list_all (is_below k) (f ∷ es) ≡ c → c ≡ (b && c)
      by true s c t = refl
      by false s false t = refl
      by false s true t =
          let none : (is_below k f || list_any (is_below k) es) ≡ false = none_below k e (f ∷ es) (both_true (below_all key_cmp e.0 (f ∷ es)) (is_sorted key_cmp (f ∷ es)) h).0 s in
          let first : is_below k f ≡ true = (both_true (is_below k f) (list_all (is_below k) es) t).0 in
          let wrong : true ≡ false = sym (ap (λ (b : Bool). b || list_any (is_below k) es) first) ∙ none in cc

  -- the last decides for all
  pub last_decides : (k : StateKey) (es : List (Keyed X)) (n : ℕ) (d : Keyed X) → IsSorted es → length es ≡ suc n → is_below k (get_or es n d) ≡ list_all (is_below k) es
  last_decides k [] n d h l = absurd (omega arith)
  last_decides k (e ∷ []) zero d h l = alone (is_below k e)
  last_decides k (e ∷ []) (suc n) d h l = absurd (omega arith)
  last_decides k (e ∷ f ∷ es) zero d h l = absurd (omega arith)
  last_decides k (e ∷ f ∷ es) (suc n) d h l = last_decides k (f ∷ es) n d (sorted_back (e ∷ []) (f ∷ es) h) (omega arith) ∙ others_decide k e f es h

  -- ---- what has a key

  -- what stands before the key hasn't it
  pub not_it : (k : StateKey) (e : Keyed X) → is_below k e ≡ true → eq_by_cmp key_cmp k e.0 ≡ false
  not_it k e h = turned e.0 k ∙ ap is_eq (is_Less (key_cmp e.0 k) h)

  pub find_skip : (k : StateKey) (ls rs : List (Keyed X)) → list_all (is_below k) ls ≡ true → find key_cmp k (ls ++ rs) ≡ find key_cmp k rs
  find_skip k [] rs h = refl
  find_skip k (a ∷ ls) rs h =
      let parts = both_true (is_below k a) (list_all (is_below k) ls) h in
      ap (λ (b : Bool). cond b (Some a.1) (find key_cmp k (ls ++ rs))) (not_it k a parts.0) ∙ find_skip k ls rs parts.1

  -- nor does what stands behind the key
  pub find_above : (k : StateKey) (es : List (Keyed X)) → below_all key_cmp k es ≡ true → find key_cmp k es ≡ None
  find_above k [] h = refl
  find_above k (e ∷ es) h =
      let parts = both_true (is_lt (key_cmp k e.0)) (below_all key_cmp k es) h in
      ap (λ (o : Ordering). cond (is_eq o) (Some e.1) (find key_cmp k es)) (is_Less (key_cmp k e.0) parts.0) ∙ find_above k es parts.1

  pub below_more : (k x : StateKey) (es : List (Keyed X)) → key_cmp k x ≡ Less → below_all key_cmp x es ≡ true → below_all key_cmp k es ≡ true
  below_more k x [] lt h = refl
  below_more k x (e ∷ es) lt h =
      let parts = both_true (is_lt (key_cmp x e.0)) (below_all key_cmp x es) h in
      (λ i. is_lt (key_cmp_total.trans k x e.0 lt (is_Less (key_cmp x e.0) parts.0) i) && below_more k x es lt parts.1 i)

  find_here : (k : StateKey) (e : Keyed X) (es : List (Keyed X)) → below_all key_cmp e.0 es ≡ true → is_below k e ≡ false → find key_cmp k (e ∷ es) ≡ if_it k e
  find_here k e es h fails = ap (λ (b : Bool). cond b (Some e.1) (find key_cmp k es)) (turned e.0 k) ∙ by (key_cmp e.0 k) refl
    where
      by : (o : Ordering) → key_cmp e.0 k ≡ o → cond (is_eq o) (Some e.1) (find key_cmp k es) ≡ (if is_eq o then Some e.1 else None)
      by Less s = absurd (let wrong : false ≡ true = sym fails ∙ ap is_lt s in cc)
      by Equal s = refl
      by Greater s = find_above k es (below_more k e.0 es (key_cmp_total.antisymm k e.0 ∙ ap ordering_reverse s) h)

  -- the place behind all that stand before the key decides what has it
  abbrev pub at_place : StateKey → List (Keyed X) → Option X
  at_place k [] = None
  at_place k (e ∷ es) = if is_below k e then at_place k es else if_it k e

  pub find_at : (k : StateKey) (es : List (Keyed X)) → IsSorted es → find key_cmp k es ≡ at_place k es
  find_at k [] h = refl
  find_at k (a ∷ es) h = by (is_below k a) refl (find_at k es parts.1)
    where
      parts : (below_all key_cmp a.0 es ≡ true) × (is_sorted key_cmp es ≡ true)
      parts = both_true (below_all key_cmp a.0 es) (is_sorted key_cmp es) h

      by : (b : Bool) → is_below k a ≡ b → find key_cmp k es ≡ at_place k es → find key_cmp k (a ∷ es) ≡ (if b then at_place k es else if_it k a)
      by true s r = ap (λ (b : Bool). cond b (Some a.1) (find key_cmp k es)) (not_it k a s) ∙ r
      by false s r = find_here k a es parts.0 s

  pub at_place-past : (k : StateKey) (es : List (Keyed X)) (n : ℕ) → n ≡ leading (is_below k) es → length es ≤ n → at_place k es ≡ None
  at_place-past k [] n e h = refl
  at_place-past k (a ∷ es) n e h = by (is_below k a) e (at_place-past k es)
    where
      by : (b : Bool) → n ≡ (if b then suc (leading (is_below k) es) else 0) → ((n : ℕ) → n ≡ leading (is_below k) es → length es ≤ n → at_place k es ≡ None) → (if b then at_place k es else if_it k a) ≡ None
      by true s r = r (leading (is_below k) es) refl (omega arith)
      by false s r = absurd (omega arith)

  pub at_place-here : (k : StateKey) (es : List (Keyed X)) (n : ℕ) (d : Keyed X) → n ≡ leading (is_below k) es → n < length es → at_place k es ≡ if_it k (get_or es n d)
  at_place-here k [] n d e h = absurd (omega arith)
  at_place-here k (a ∷ es) n d e h = by (is_below k a) n e h (at_place-here k es)
    where
      by : (b : Bool) (n : ℕ) → n ≡ (if b then suc (leading (is_below k) es) else 0) → n < suc (length es) → ((n : ℕ) (d : Keyed X) → n ≡ leading (is_below k) es → n < length es → at_place k es ≡ if_it k (get_or es n d))
          → (if b then at_place k es else if_it k a) ≡ if_it k (get_or (a ∷ es) n d)
      by true zero s lt r = absurd (omega arith)
      by true (suc n) s lt r = r n d (omega arith) (omega arith)
      by false zero s lt r = refl
      by false (suc n) s lt r = absurd (omega arith)

  -- where the last stands before the key, all do
  pub all_before : (k : StateKey) (es : List (Keyed X)) (e : Keyed X) → IsSorted es → 0 < length es → e ≡ get_or es (length es - 1) e → is_below k e ≡ true → list_all (is_below k) es ≡ true
  all_before k es e h some is below = sym (last_decides k es (length es - 1) e h (omega arith)) ∙ ap (is_below k) (sym is) ∙ below

  -- a key that not all of a part stand before belongs to that part
  place_in : (k : StateKey) (ls rs : List (Keyed X)) → list_all (is_below k) ls ≡ false → at_place k (ls ++ rs) ≡ at_place k ls
  place_in k [] rs h = absurd cc
  place_in k (a ∷ ls) rs h = by (is_below k a) h (place_in k ls rs)
    where
      by : (b : Bool) → (b && list_all (is_below k) ls) ≡ false → (list_all (is_below k) ls ≡ false → at_place k (ls ++ rs) ≡ at_place k ls) → (if b then at_place k (ls ++ rs) else if_it k a) ≡ (if b then at_place k ls else if_it k a)
      by true s r = r s
      by false s r = refl

  pub find_in : (k : StateKey) (ls rs : List (Keyed X)) → IsSorted (ls ++ rs) → list_all (is_below k) ls ≡ false → find key_cmp k (ls ++ rs) ≡ find key_cmp k ls
  find_in k ls rs h e = find_at k (ls ++ rs) h ∙ place_in k ls rs e ∙ sym (find_at k ls (sorted_front ls rs h))
