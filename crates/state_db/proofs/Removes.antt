-- What is removed from a list in order.
use Rattle.std.proofs.Common.{◌≡◌, ℕ, zero, suc, ◌≤◌, Bool, true, false, cond, not, List, [], ◌∷◌, ◌++◌, ◌&&◌, length, refl, sym, ap, ◌∙◌, arith}
use Rattle.std.specs.Prelude.{if◌then◌else◌}
use Rattle.std.specs.declared.cmp.Ordering.{Ordering}
use Rattle.std.specs.declared.cmp.Ordering.TheVariants.{Less, Equal, Greater}
use Rattle.std.specs.Ordering.{is_lt, is_eq, eq_by_cmp, ordering_reverse}
use Rattle.std.specs.List.{list_all}
use Rattle.std.specs.List as lists
use Rattle.std.specs.FinMap.{is_sorted}
use Rattle.std.specs.FinMap.Entries.{below_all}
use Rattle.rules.specs.State.{StateKey, key_cmp}
use Rattle.rules.proofs.Booleans.{both_true}
use Rattle.rules.proofs.Keys.{key_cmp_total}
use Rattle.state_db.specs.Search.{Keyed, IsSorted, is_below, ties_at, leading}
use Rattle.state_db.specs.Edits.{without}
use Rattle.state_db.proofs.Tests.{is_Less}
use Rattle.state_db.proofs.Order.{turned, not_it, below_more}

module _ {X : Type 0} (k : StateKey) where
  kept : (e : Keyed X) (es : List (Keyed X)) → eq_by_cmp key_cmp k e.0 ≡ false → without k (e ∷ es) ≡ e ∷ without k es
  kept e es h = ap (λ (b : Bool). cond (not b) (e ∷ without k es) (without k es)) h

  -- what stands behind the key stays
  all_above : (es : List (Keyed X)) → below_all key_cmp k es ≡ true → without k es ≡ es
  all_above [] h = refl
  all_above (e ∷ es) h =
      let parts = both_true (is_lt (key_cmp k e.0)) (below_all key_cmp k es) h in
      kept e es (ap is_eq (is_Less (key_cmp k e.0) parts.0)) ∙ ap (λ (xs : List (Keyed X)). e ∷ xs) (all_above es parts.1)

  -- and what stands before it
  pub without_skip : (ls rs : List (Keyed X)) → list_all (is_below k) ls ≡ true → without k (ls ++ rs) ≡ ls ++ without k rs
  without_skip [] rs h = refl
  without_skip (a ∷ ls) rs h =
      let parts = both_true (is_below k a) (list_all (is_below k) ls) h in
      kept a (ls ++ rs) (not_it k a parts.0) ∙ ap (λ (xs : List (Keyed X)). a ∷ xs) (without_skip ls rs parts.1)

  -- behind one that isn't before the key all stand behind the key
  pub rest_above : (e : Keyed X) (es : List (Keyed X)) → below_all key_cmp e.0 es ≡ true → is_below k e ≡ false → below_all key_cmp k es ≡ true
  rest_above e es h fails = by (key_cmp e.0 k) refl
    where
      tied : (xs : List (Keyed X)) → below_all key_cmp e.0 xs ≡ true → key_cmp e.0 k ≡ Equal → below_all key_cmp k xs ≡ true
      tied [] g s = refl
      tied (x ∷ xs) g s =
          let parts = both_true (is_lt (key_cmp e.0 x.0)) (below_all key_cmp e.0 xs) g in
          (λ i. (ap is_lt (sym (key_cmp_total.congr e.0 k x.0 s)) ∙ parts.0) i && tied xs parts.1 s i)

      by : (o : Ordering) → key_cmp e.0 k ≡ o → below_all key_cmp k es ≡ true
      by Less s = absurd (let wrong : false ≡ true = sym fails ∙ ap is_lt s in cc)
      by Equal s = tied es h s
      by Greater s = below_more k e.0 es (key_cmp_total.antisymm k e.0 ∙ ap ordering_reverse s) h

  -- the part that the key belongs to
  pub without_in : (ls rs : List (Keyed X)) → IsSorted (ls ++ rs) → list_all (is_below k) ls ≡ false → without k (ls ++ rs) ≡ without k ls ++ rs
  without_in [] rs h e = absurd cc
  without_in (a ∷ ls) rs h e = by (is_below k a) refl (without_in ls rs parts.1)
    where
      parts : (below_all key_cmp a.0 (ls ++ rs) ≡ true) × (is_sorted key_cmp (ls ++ rs) ≡ true)
      parts = both_true (below_all key_cmp a.0 (ls ++ rs)) (is_sorted key_cmp (ls ++ rs)) h

      by : (b : Bool) → is_below k a ≡ b → (list_all (is_below k) ls ≡ false → without k (ls ++ rs) ≡ without k ls ++ rs) → without k (a ∷ (ls ++ rs)) ≡ without k (a ∷ ls) ++ rs
      by true s r =
          kept a (ls ++ rs) (not_it k a s) ∙ ap (λ (xs : List (Keyed X)). a ∷ xs) (r (ap (λ (b : Bool). b && list_all (is_below k) ls) (sym s) ∙ e))
          ∙ ap (λ (xs : List (Keyed X)). xs ++ rs) (sym (kept a ls (not_it k a s)))
      by false s r = here (eq_by_cmp key_cmp k a.0)
        where
          above : below_all key_cmp k (ls ++ rs) ≡ true
          above = rest_above a (ls ++ rs) parts.0 s

          front : (xs : List (Keyed X)) → below_all key_cmp k (xs ++ rs) ≡ true → below_all key_cmp k xs ≡ true
          front [] g = refl
          front (x ∷ xs) g =
              let each = both_true (is_lt (key_cmp k x.0)) (below_all key_cmp k (xs ++ rs)) g in
              (λ i. each.0 i && front xs each.1 i)

          rest : without k (ls ++ rs) ≡ without k ls ++ rs
          rest = all_above (ls ++ rs) above ∙ ap (λ (xs : List (Keyed X)). xs ++ rs) (sym (all_above ls (front ls above)))

          here : (c : Bool) → cond (not c) (a ∷ without k (ls ++ rs)) (without k (ls ++ rs)) ≡ cond (not c) (a ∷ without k ls) (without k ls) ++ rs
          here true = rest
          here false = ap (λ (xs : List (Keyed X)). a ∷ xs) rest

  -- by places
  pub remove_at : (es : List (Keyed X)) (n : ℕ) → IsSorted es → n ≡ leading (is_below k) es → ties_at k es n ≡ true → lists.remove es n ≡ without k es
  remove_at [] n h e t = absurd cc
  remove_at (a ∷ es) n h e t = by (is_below k a) refl n e t (remove_at es)
    where
      parts : (below_all key_cmp a.0 es ≡ true) × (is_sorted key_cmp es ≡ true)
      parts = both_true (below_all key_cmp a.0 es) (is_sorted key_cmp es) h

      by : (b : Bool) → is_below k a ≡ b → (n : ℕ) → n ≡ (if b then suc (leading (is_below k) es) else 0) → ties_at k (a ∷ es) n ≡ true
          → ((n : ℕ) → IsSorted es → n ≡ leading (is_below k) es → ties_at k es n ≡ true → lists.remove es n ≡ without k es) → lists.remove (a ∷ es) n ≡ without k (a ∷ es)
      by true s zero e t r = absurd (omega arith)
      by true s (suc n) e t r = ap (λ (xs : List (Keyed X)). a ∷ xs) (r n parts.1 (omega arith) t) ∙ sym (kept a es (not_it k a s))
      by false s zero e t r = sym (ap (λ (b : Bool). cond (not b) (a ∷ without k es) (without k es)) (turned a.0 k ∙ t) ∙ all_above es (rest_above a es parts.0 s))
      by false s (suc n) e t r = absurd (omega arith)

  pub remove_none : (es : List (Keyed X)) (n : ℕ) → IsSorted es → n ≡ leading (is_below k) es → ties_at k es n ≡ false → es ≡ without k es
  remove_none [] n h e t = refl
  remove_none (a ∷ es) n h e t = by (is_below k a) refl n e t (remove_none es)
    where
      parts : (below_all key_cmp a.0 es ≡ true) × (is_sorted key_cmp es ≡ true)
      parts = both_true (below_all key_cmp a.0 es) (is_sorted key_cmp es) h

      by : (b : Bool) → is_below k a ≡ b → (n : ℕ) → n ≡ (if b then suc (leading (is_below k) es) else 0) → ties_at k (a ∷ es) n ≡ false
          → ((n : ℕ) → IsSorted es → n ≡ leading (is_below k) es → ties_at k es n ≡ false → es ≡ without k es) → a ∷ es ≡ without k (a ∷ es)
      by true s zero e t r = absurd (omega arith)
      by true s (suc n) e t r = ap (λ (xs : List (Keyed X)). a ∷ xs) (r n parts.1 (omega arith) t) ∙ sym (kept a es (not_it k a s))
      by false s zero e t r = sym (kept a es (turned a.0 k ∙ t) ∙ ap (λ (xs : List (Keyed X)). a ∷ xs) (all_above es (rest_above a es parts.0 s)))
      by false s (suc n) e t r = absurd (omega arith)

-- it has no more than before
pub without-le : {X : Type 0} (k : StateKey) (es : List (Keyed X)) → length (without k es) ≤ length es
without-le k [] = omega arith
without-le k (e ∷ es) = by (eq_by_cmp key_cmp k e.0) (without-le k es)
  where
    by : (b : Bool) → length (without k es) ≤ length es → length (cond (not b) (e ∷ without k es) (without k es)) ≤ suc (length es)
    by true h = omega arith
    by false h = omega arith
