-- A map after changes, list by list and key by key.
use Rattle.std.proofs.Common.{◌≡◌, Bool, true, false, cond, ◌||◌, List, [], ◌∷◌, ◌++◌, map, Option, Some, None, refl, sym, ap, ◌∙◌}
use Rattle.std.specs.Prelude.{if◌then◌else◌}
use Rattle.std.specs.FinMap.{get, get-insert, get-remove}
use Rattle.rules.specs.State.{StateKey, KeyMap, ChangeOf, is_same_key, is_among, set_at, with_changes}
use Rattle.rules.proofs.Keys.{key_cmp_total, key_ties, same_key_is}

-- a map as it is read after one change
pub get-set_at : {X : Type 0} (m : KeyMap X) (k : StateKey) (x : Option X) (q : StateKey) → get (set_at m k x) q ≡ (if is_same_key q k then x else get m q)
get-set_at {X} m k None q = get-remove key_cmp_total m k q ∙ ap (λ (b : Bool). cond {A = Option X} b None (get m q)) (key_ties q k)
get-set_at {X} m k (Some x) q = get-insert key_cmp_total m k x q ∙ ap (λ (b : Bool). cond {A = Option X} b (Some x) (get m q)) (key_ties q k)

-- ---- list by list

pub with_changes-append : {X : Type 0} (m : KeyMap X) (cs ds : List (ChangeOf X)) → with_changes m (cs ++ ds) ≡ with_changes (with_changes m cs) ds
unfolding with_changes
with_changes-append m [] ds = refl
with_changes-append m (c ∷ cs) ds = with_changes-append (set_at m c.0 c.1) cs ds

pub with_changes-none : {X : Type 0} (m : KeyMap X) → with_changes m [] ≡ m
unfolding with_changes
with_changes-none m = refl

pub with_changes-one : {X : Type 0} (m : KeyMap X) (c : ChangeOf X) → with_changes m (c ∷ []) ≡ set_at m c.0 c.1
unfolding with_changes
with_changes-one m c = refl

-- one change more at the end
pub with_changes-push : {X : Type 0} (m : KeyMap X) (cs : List (ChangeOf X)) (c : ChangeOf X) → with_changes m (cs ++ c ∷ []) ≡ set_at (with_changes m cs) c.0 c.1
with_changes-push m cs c = with_changes-append m cs (c ∷ []) ∙ with_changes-one (with_changes m cs) c

-- ---- key by key

module _ {X : Type 0} (row : StateKey → Option X) where
  -- the change of each of these keys to what it is to have
  abbrev pub each_to : List StateKey → List (ChangeOf X)
  each_to ks = map (λ k. (k, row k)) ks

  among_more : (m : KeyMap X) (k q : StateKey) (among b : Bool) → is_same_key q k ≡ b
      → cond among (row q) (cond b (row k) (get m q)) ≡ cond (b || among) (row q) (get m q)
  among_more m k q true true e = refl
  among_more m k q false true e = ap row (sym (same_key_is q k e))
  among_more m k q true false e = refl
  among_more m k q false false e = refl

  pub get-with_changes : (m : KeyMap X) (ks : List StateKey) (q : StateKey) → get (with_changes m (each_to ks)) q ≡ (if is_among q ks then row q else get m q)
  unfolding with_changes
  get-with_changes m [] q = refl
  get-with_changes m (k ∷ ks) q =
      get-with_changes (set_at m k (row k)) ks q
      ∙ ap (cond (is_among q ks) (row q)) (get-set_at m k (row k) q)
      ∙ among_more m k q (is_among q ks) (is_same_key q k) refl
