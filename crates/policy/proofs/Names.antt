-- A map by the bytes of names.
use Rattle.std.proofs.Common.{◌≡◌, ℕ, ◌+◌, Bool, true, false, cond, List, [], ◌∷◌, ◌++◌, length, Option, Some, None, refl, sym, ap, ◌∙◌, arith}
use Rattle.std.specs.Prelude.{Vec, IsSome, is_some}
use Rattle.std.specs.declared.alloc.Global.{Global}
use Rattle.std.specs.declared.cmp.Ordering.{Ordering}
use Rattle.std.specs.declared.cmp.Ordering.TheVariants.{Less}
use Rattle.std.specs.Ordering.{eq_by_cmp, is_eq}
use Rattle.std.specs.Cmp.{eq_by_cmp_equiv}
use Rattle.std.specs.FinMap.{get, insert, find, empty, len, from_entries, len-empty, len-insert, get-from_entries, get-insert, same_map, slice_cmp-IsAntisymmetric, nat_cmp-IsAntisymmetric}
use Rattle.std.specs.List.{AllByRecursion}
use Rattle.std.specs.List.Sorted.{IsStrictlySortedBy}
use Rattle.std.specs.Map.{keys_of, lookup, KeepsOthers, IsKeyTest, AreApart}
use Rattle.std.specs.BTreeMap.{BTreeMap, get_by, is_at, UpdatesBy}
use Rattle.std.proofs.lemmas.Cmp.{nat_list_cmp_total}
use Rattle.std.proofs.lemmas.Map.Text.{is_eq-slice_cmp}
use Rattle.std.proofs.lemmas.Slice.Eq.{bytes_eq-Decides}
use Rattle.policy.specs.Tree.{Tree}
use Rattle.values.specs.Order.{bytes_cmp}
use Rattle.policy.specs.Policies.{Policies, by_name}

-- the map of the code
abbrev pub Names : Type 0
Names = BTreeMap (Vec ℕ Global) Tree

abbrev pub names_cmp : Vec ℕ Global → Vec ℕ Global → Ordering
names_cmp x y = bytes_cmp x.items y.items

abbrev pub policies_of : Names → Policies
policies_of m = from_entries (by_name m.entries)

-- what the map of the code has at these bytes
abbrev pub at_name : Names → List ℕ → Option Tree
at_name m q = get_by (λ k. bytes_cmp q k.items) m

find_name : (es : List (Vec ℕ Global × Tree)) (q : List ℕ)
    → find bytes_cmp q (by_name es) ≡ lookup (is_at (λ k. bytes_cmp q k.items)) es
find_name [] q = refl
find_name (e ∷ es) q = ap (cond (eq_by_cmp bytes_cmp q e.0.items) (Some e.1)) (find_name es q)

pub get_name : (m : Names) (q : List ℕ) → get (policies_of m) q ≡ at_name m q
get_name m q = get-from_entries nat_list_cmp_total (by_name m.entries) q ∙ find_name m.entries q

-- maps that answer alike are one
pub same_policies : (m n : Policies) → ((q : List ℕ) → get m q ≡ get n q) → m ≡ n
same_policies m n h = same_map nat_list_cmp_total (slice_cmp-IsAntisymmetric nat_cmp-IsAntisymmetric) m n h

-- ---- one name is set

others : {K X : Type 0} (eq : K → K → Bool) (test : K → Bool) (old new : List (K × X)) → KeepsOthers eq test old new
    → (other : K → Bool) → IsKeyTest eq other → AreApart test other → lookup other new ≡ lookup other old
unfolding KeepsOthers
others eq test old new h = h

module _ (bs q : List ℕ) where
  -- a name that ties with bs doesn't tie with q
  apart : eq_by_cmp bytes_cmp q bs ≡ false → (k : List ℕ) → eq_by_cmp bytes_cmp bs k ≡ true
      → eq_by_cmp bytes_cmp q k ≡ false
  apart differs k ties =
      let laws = eq_by_cmp_equiv nat_list_cmp_total in
      laws.symm q k ∙ sym (laws.congr bs k q ties) ∙ laws.symm bs q ∙ differs

  one_set_at : (m n : Names) (w : Option Tree) (b : Bool) → eq_by_cmp bytes_cmp q bs ≡ b
      → UpdatesBy names_cmp (λ k. bytes_cmp bs k.items) m n w → at_name n q ≡ cond b w (at_name m q)
  one_set_at m n w true e h =
      let same : q ≡ bs = (bytes_eq-Decides q bs).0 (sym (is_eq-slice_cmp q bs) ∙ e) in
      ap (at_name n) same ∙ h.1
  one_set_at m n w false e h =
      others _ _ m.entries n.entries h.3 (is_at (λ k. bytes_cmp q k.items)) (λ x y. (eq_by_cmp_equiv nat_list_cmp_total).congr q x.items y.items) (λ k ties. apart e k.items ties)

pub one_set : (m n : Names) (bs : List ℕ) (p : Tree) → UpdatesBy names_cmp (λ k. bytes_cmp bs k.items) m n (Some p)
    → policies_of n ≡ insert (policies_of m) bs p
one_set m n bs p h = same_policies (policies_of n) (insert (policies_of m) bs p) (λ q.
    get_name n q ∙ one_set_at bs q m n (Some p) (eq_by_cmp bytes_cmp q bs) refl h
    ∙ ap (cond (eq_by_cmp bytes_cmp q bs) (Some p)) (sym (get_name m q))
    ∙ sym (get-insert nat_list_cmp_total (policies_of m) bs p q))

-- ---- a copy

-- the map with these entries set, the first of them last
abbrev pub with_entries : List (Vec ℕ Global × Tree) → Policies → Policies
with_entries [] m = m
with_entries (e ∷ es) m = insert (with_entries es m) e.0.items e.1

pub with_last : (es : List (Vec ℕ Global × Tree)) (k : Vec ℕ Global) (p : Tree) (m : Policies)
    → with_entries (es ++ (k, p) ∷ []) m ≡ with_entries es (insert m k.items p)
with_last [] k p m = refl
with_last (e ∷ es) k p m = ap (λ (x : Policies). insert x e.0.items e.1) (with_last es k p m)

pub with_all : (es : List (Vec ℕ Global × Tree)) → with_entries es empty ≡ from_entries (by_name es)
with_all [] = refl
with_all (e ∷ es) = ap (λ (x : Policies). insert x e.0.items e.1) (with_all es)

-- ---- a name that isn't there

no_value : (o : Option Tree) → o ≡ None → IsSome o → ⊥
no_value None e h = absurd cc
no_value (Some x) e h = absurd cc

pub no_policy : (m : Names) (q : List ℕ) → None ≡ at_name m q → IsSome (get (policies_of m) q) → ⊥
no_policy m q e = no_value (get (policies_of m) q) (get_name m q ∙ sym e)

-- ---- how many names

-- a name below all others is none of them
below_others : (x : Vec ℕ Global) (es : List (Vec ℕ Global × Tree))
    → AllByRecursion (λ y. names_cmp x y ≡ Less) (keys_of es) → find bytes_cmp x.items (by_name es) ≡ None
below_others x [] h = refl
below_others x (e ∷ es) h =
    ap (λ (r : Ordering). cond (is_eq r) (Some e.1) (find bytes_cmp x.items (by_name es))) h.0 ∙ below_others x es h.1

counted : (es : List (Vec ℕ Global × Tree)) → IsStrictlySortedBy names_cmp (keys_of es)
    → len (from_entries {R = bytes_cmp} (by_name es)) ≡ length es
unfolding IsStrictlySortedBy
counted [] h = len-empty bytes_cmp Tree
counted (e ∷ es) h =
    let rest = from_entries {R = bytes_cmp} (by_name es) in
    let absent = get-from_entries nat_list_cmp_total (by_name es) e.0.items ∙ below_others e.0 es h.0 in
    len-insert nat_list_cmp_total rest e.0.items e.1
    ∙ ap (λ (o : Option Tree). cond (is_some o) (len rest) (len rest + 1)) absent
    ∙ omega (arith, counted es h.1)

pub count_of : (m : Names) → IsStrictlySortedBy names_cmp (keys_of m.entries) → len (policies_of m) ≡ length m.entries
count_of m h = counted m.entries h
