-- What is put in its place in a list in order.
use Rattle.std.proofs.Common.{◌≡◌, ℕ, zero, suc, ◌<◌, ◌≤◌, Bool, true, false, List, [], ◌∷◌, ◌++◌, ◌&&◌, length, get_or, refl, sym, ap, ◌∙◌, arith}
use Rattle.std.specs.Prelude.{if◌then◌else◌, slice_set}
use Rattle.std.specs.declared.cmp.Ordering.{Ordering}
use Rattle.std.specs.Ordering.{is_lt, is_eq, ordering_reverse}
use Rattle.std.specs.List.{list_all, insert}
use Rattle.std.specs.FinMap.{is_sorted}
use Rattle.std.specs.FinMap.Entries.{put, by_order, below_all}
use Rattle.rules.specs.State.{StateKey, key_cmp}
use Rattle.rules.proofs.Booleans.{both_true}
use Rattle.rules.proofs.Keys.{key_cmp_total, key_cmp-IsAntisymmetric}
use Rattle.state_db.specs.Search.{Keyed, IsSorted, is_below, ties_at, leading}
use Rattle.state_db.proofs.Tests.{is_Less, is_Greater}
use Rattle.state_keys.proofs.Answers.{is_Equal}

module _ {X : Type 0} where
  -- ---- what has the key

  pub ties_past : (k : StateKey) (es : List (Keyed X)) (n : ℕ) → length es ≤ n → false ≡ ties_at k es n
  ties_past k [] n h = refl
  ties_past k (e ∷ es) zero h = absurd (omega arith)
  ties_past k (e ∷ es) (suc n) h = ties_past k es n (omega arith)

  pub ties_here : (k : StateKey) (es : List (Keyed X)) (n : ℕ) (e : Keyed X) → n < length es → e ≡ get_or es n e → is_eq (key_cmp e.0 k) ≡ ties_at k es n
  ties_here k [] n e lt is = absurd (omega arith)
  ties_here k (f ∷ es) zero e lt is = ap (λ (x : Keyed X). is_eq (key_cmp x.0 k)) is
  ties_here k (f ∷ es) (suc n) e lt is = ties_here k es n e (omega arith) is

  pub ties_in : (k : StateKey) (es : List (Keyed X)) (n : ℕ) → ties_at k es n ≡ true → n < length es
  ties_in k [] n h = absurd cc
  ties_in k (e ∷ es) zero h = omega arith
  ties_in k (e ∷ es) (suc n) h = let rest = ties_in k es n h in omega arith

  -- what has the key, in a list in order, stands behind as many as stand before the key
  before_tied : (k : StateKey) (a : Keyed X) (es : List (Keyed X)) (n : ℕ) → below_all key_cmp a.0 es ≡ true → ties_at k es n ≡ true → is_below k a ≡ true
  before_tied k a [] n h t = absurd cc
  before_tied k a (e ∷ es) zero h t =
      let parts = both_true (is_lt (key_cmp a.0 e.0)) (below_all key_cmp a.0 es) h in
      ap (λ (q : StateKey). is_lt (key_cmp a.0 q)) (sym (key_cmp-IsAntisymmetric e.0 k (is_Equal (key_cmp e.0 k) t))) ∙ parts.0
  before_tied k a (e ∷ es) (suc n) h t = before_tied k a es n ((both_true (is_lt (key_cmp a.0 e.0)) (below_all key_cmp a.0 es) h).1) t

  pub tied_leads : (k : StateKey) (es : List (Keyed X)) (n : ℕ) → IsSorted es → ties_at k es n ≡ true → n ≡ leading (is_below k) es
  tied_leads k [] n h t = absurd cc
  tied_leads k (a ∷ es) zero h t = ap (λ (o : Ordering). if is_lt o then suc (leading (is_below k) es) else 0) (sym (is_Equal (key_cmp a.0 k) t))
  tied_leads k (a ∷ es) (suc n) h t =
      let parts = both_true (below_all key_cmp a.0 es) (is_sorted key_cmp es) h in
      ap suc (tied_leads k es n parts.1 t)
      ∙ ap (λ (b : Bool). if b then suc (leading (is_below k) es) else 0) (sym (before_tied k a es n parts.0 t))

module _ {X : Type 0} (k : StateKey) (v : X) where
  abbrev pub put_ : List (Keyed X) → List (Keyed X)
  put_ es = put key_cmp k v es

  turned : (e : Keyed X) → key_cmp k e.0 ≡ ordering_reverse (key_cmp e.0 k)
  turned e = key_cmp_total.antisymm k e.0

  -- the three places
  behind : (e : Keyed X) (es : List (Keyed X)) → is_below k e ≡ true → put_ (e ∷ es) ≡ e ∷ put_ es
  behind e es h = ap (λ (o : Ordering). by_order o ((k, v) ∷ e ∷ es) ((e.0, v) ∷ es) (e ∷ put_ es)) (turned e ∙ ap ordering_reverse (is_Less (key_cmp e.0 k) h))

  instead : (e : Keyed X) (es : List (Keyed X)) → is_eq (key_cmp e.0 k) ≡ true → put_ (e ∷ es) ≡ (k, v) ∷ es
  instead e es h =
      let equal = is_Equal (key_cmp e.0 k) h in
      ap (λ (o : Ordering). by_order o ((k, v) ∷ e ∷ es) ((e.0, v) ∷ es) (e ∷ put_ es)) (turned e ∙ ap ordering_reverse equal)
      ∙ ap (λ (x : StateKey). (x, v) ∷ es) (key_cmp-IsAntisymmetric e.0 k equal)

  before : (e : Keyed X) (es : List (Keyed X)) → is_below k e ≡ false → is_eq (key_cmp e.0 k) ≡ false → put_ (e ∷ es) ≡ (k, v) ∷ e ∷ es
  before e es h g =
      ap (λ (o : Ordering). by_order o ((k, v) ∷ e ∷ es) ((e.0, v) ∷ es) (e ∷ put_ es)) (turned e ∙ ap ordering_reverse (is_Greater (key_cmp e.0 k) h g))

  pub put_set : (es : List (Keyed X)) (n : ℕ) → n ≡ leading (is_below k) es → ties_at k es n ≡ true → slice_set es n (k, v) ≡ put_ es
  put_set [] n e h = absurd cc
  put_set (a ∷ es) n e h = by (is_below k a) refl n e h (put_set es)
    where
      by : (b : Bool) → is_below k a ≡ b → (n : ℕ) → n ≡ (if b then suc (leading (is_below k) es) else 0) → ties_at k (a ∷ es) n ≡ true
          → ((n : ℕ) → n ≡ leading (is_below k) es → ties_at k es n ≡ true → slice_set es n (k, v) ≡ put_ es)
          → slice_set (a ∷ es) n (k, v) ≡ put_ (a ∷ es)
      by true s zero e h r = absurd (omega arith)
      by true s (suc n) e h r = ap (λ (xs : List (Keyed X)). a ∷ xs) (r n (omega arith) h) ∙ sym (behind a es s)
      by false s zero e h r = sym (instead a es h)
      by false s (suc n) e h r = absurd (omega arith)

  pub put_insert : (es : List (Keyed X)) (n : ℕ) → n ≡ leading (is_below k) es → ties_at k es n ≡ false → insert es n (k, v) ≡ put_ es
  put_insert [] zero e h = refl
  put_insert [] (suc n) e h = absurd (omega arith)
  put_insert (a ∷ es) n e h = by (is_below k a) refl n e h (put_insert es)
    where
      by : (b : Bool) → is_below k a ≡ b → (n : ℕ) → n ≡ (if b then suc (leading (is_below k) es) else 0) → ties_at k (a ∷ es) n ≡ false
          → ((n : ℕ) → n ≡ leading (is_below k) es → ties_at k es n ≡ false → insert es n (k, v) ≡ put_ es)
          → insert (a ∷ es) n (k, v) ≡ put_ (a ∷ es)
      by true s zero e h r = absurd (omega arith)
      by true s (suc n) e h r = ap (λ (xs : List (Keyed X)). a ∷ xs) (r n (omega arith) h) ∙ sym (behind a es s)
      by false s zero e h r = sym (before a es s h)
      by false s (suc n) e h r = absurd (omega arith)

  -- ---- in a part of a list

  pub put_skip : (ls rs : List (Keyed X)) → list_all (is_below k) ls ≡ true → put_ (ls ++ rs) ≡ ls ++ put_ rs
  put_skip [] rs h = refl
  put_skip (a ∷ ls) rs h =
      let parts = both_true (is_below k a) (list_all (is_below k) ls) h in
      behind a (ls ++ rs) parts.0 ∙ ap (λ (xs : List (Keyed X)). a ∷ xs) (put_skip ls rs parts.1)

  pub put_in : (ls rs : List (Keyed X)) → list_all (is_below k) ls ≡ false → put_ (ls ++ rs) ≡ put_ ls ++ rs
  put_in [] rs h = absurd cc
  put_in (a ∷ ls) rs h = by (is_below k a) refl (put_in ls rs)
    where
      by : (b : Bool) → is_below k a ≡ b → (list_all (is_below k) ls ≡ false → put_ (ls ++ rs) ≡ put_ ls ++ rs) → put_ (a ∷ (ls ++ rs)) ≡ put_ (a ∷ ls) ++ rs
      by true s r =
          behind a (ls ++ rs) s ∙ ap (λ (xs : List (Keyed X)). a ∷ xs) (r (ap (λ (b : Bool). b && list_all (is_below k) ls) (sym s) ∙ h))
          ∙ ap (λ (xs : List (Keyed X)). xs ++ rs) (sym (behind a ls s))
      by false s r = here (is_eq (key_cmp a.0 k)) refl
        where
          here : (c : Bool) → is_eq (key_cmp a.0 k) ≡ c → put_ (a ∷ (ls ++ rs)) ≡ put_ (a ∷ ls) ++ rs
          here true t = instead a (ls ++ rs) t ∙ ap (λ (xs : List (Keyed X)). xs ++ rs) (sym (instead a ls t))
          here false t = before a (ls ++ rs) s t ∙ ap (λ (xs : List (Keyed X)). xs ++ rs) (sym (before a ls s t))
