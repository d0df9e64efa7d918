-- The first uses of ids after more uses, list by list and id by id.
use Rattle.std.proofs.Common.{◌≡◌, ℕ, Bool, true, false, cond, ◌||◌, List, [], ◌∷◌, ◌++◌, map, Option, Some, None, refl, sym, ap, ◌∙◌}
use Rattle.std.specs.Prelude.{is_some}
use Rattle.std.specs.Option.{option_or}
use Rattle.std.specs.Str.{bytes_eq}
use Rattle.std.specs.List.{list_any}
use Rattle.std.specs.Cmp.Lexicographic.{nat_list_cmp_total, bytes_decides}
use Rattle.std.specs.FinMap.{get, contains_key, insert, get-insert, find}
use Rattle.values.specs.Order.{bytes_cmp}
use Rattle.rules.specs.declared.first_use.FirstUse.{FirstUse}
use Rattle.rules.specs.FirstUses.{FirstUses, with_uses}
use Rattle.rules.specs.Candidate.{is_used}
use Rattle.rules.specs.Listings.{new_uses}
use Rattle.rules.proofs.Booleans.{or-false}
use Rattle.rules.proofs.Keys.{bytes_ties}

-- ---- list by list

pub with_uses-append : (m : FirstUses) (us vs : List (List ℕ × FirstUse)) → with_uses m (us ++ vs) ≡ with_uses (with_uses m us) vs
unfolding with_uses
with_uses-append m [] vs = refl
with_uses-append m (u ∷ us) vs = with_uses-append (cond (contains_key m u.0) m (insert m u.0 u.1)) us vs

pub with_uses-none : (m : FirstUses) → with_uses m [] ≡ m
unfolding with_uses
with_uses-none m = refl

pub with_uses-one : (m : FirstUses) (u : List ℕ × FirstUse) → with_uses m (u ∷ []) ≡ cond (contains_key m u.0) m (insert m u.0 u.1)
unfolding with_uses
with_uses-one m u = refl

-- one use more at the end
pub with_uses-push : (m : FirstUses) (us : List (List ℕ × FirstUse)) (u : List ℕ × FirstUse)
    → with_uses m (us ++ u ∷ []) ≡ cond (contains_key (with_uses m us) u.0) (with_uses m us) (insert (with_uses m us) u.0 u.1)
with_uses-push m us u = with_uses-append m us (u ∷ []) ∙ with_uses-one (with_uses m us) u

-- ---- id by id

-- the use that an id had, else the first one in the list
pub get-with_uses : (m : FirstUses) (us : List (List ℕ × FirstUse)) (id : List ℕ) → get (with_uses m us) id ≡ option_or (get m id) (find bytes_cmp id us)
unfolding with_uses
get-with_uses m [] id = by (get m id)
  where
    by : (o : Option FirstUse) → o ≡ option_or o None
    by None = refl
    by (Some u) = refl
get-with_uses m (u ∷ us) id = get-with_uses (cond (contains_key m u.0) m (insert m u.0 u.1)) us id ∙ by (get m u.0) refl
  where
    on : (b : Bool) → bytes_eq id u.0 ≡ b → get m u.0 ≡ None → option_or (cond b (Some u.1) (get m id)) (find bytes_cmp id us) ≡ option_or (get m id) (cond b (Some u.1) (find bytes_cmp id us))
    on true same none = ap (λ (o : Option FirstUse). option_or o (Some u.1)) (sym none ∙ ap (get m) (sym ((bytes_decides id u.0).0 same)))
    on false same none = refl

    kept : (b : Bool) (w : FirstUse) → bytes_eq id u.0 ≡ b → get m u.0 ≡ Some w → option_or (get m id) (find bytes_cmp id us) ≡ option_or (get m id) (cond b (Some u.1) (find bytes_cmp id us))
    kept true w same some =
        let here : get m id ≡ Some w = ap (get m) ((bytes_decides id u.0).0 same) ∙ some in
        ap (λ (o : Option FirstUse). option_or o (find bytes_cmp id us)) here ∙ ap (λ (o : Option FirstUse). option_or o (Some u.1)) (sym here)
    kept false w same some = refl

    by : (o : Option FirstUse) → get m u.0 ≡ o → option_or (get (cond (is_some o) m (insert m u.0 u.1)) id) (find bytes_cmp id us) ≡ option_or (get m id) (find bytes_cmp id (u ∷ us))
    by None e =
        ap (λ (o : Option FirstUse). option_or o (find bytes_cmp id us)) (get-insert nat_list_cmp_total m u.0 u.1 id ∙ ap (λ (b : Bool). cond b (Some u.1) (get m id)) (bytes_ties id u.0))
        ∙ on (bytes_eq id u.0) refl e
        ∙ ap (λ (b : Bool). option_or (get m id) (cond b (Some u.1) (find bytes_cmp id us))) (sym (bytes_ties id u.0))
    by (Some w) e =
        kept (bytes_eq id u.0) w refl e
        ∙ ap (λ (b : Bool). option_or (get m id) (cond b (Some u.1) (find bytes_cmp id us))) (sym (bytes_ties id u.0))

-- an id has a use where it had one or one of the list is its own
pub contains-with_uses : (m : FirstUses) (us : List (List ℕ × FirstUse)) (id : List ℕ) → contains_key (with_uses m us) id ≡ (contains_key m id || list_any (λ u. bytes_eq id u.0) us)
contains-with_uses m us id = ap is_some (get-with_uses m us id) ∙ either (get m id) (find bytes_cmp id us) ∙ ap (λ (b : Bool). contains_key m id || b) (found us)
  where
    either : (o p : Option FirstUse) → is_some (option_or o p) ≡ (is_some o || is_some p)
    either None p = refl
    either (Some u) p = refl

    found : (vs : List (List ℕ × FirstUse)) → is_some (find bytes_cmp id vs) ≡ list_any (λ u. bytes_eq id u.0) vs
    found [] = refl
    found (v ∷ vs) = ap (λ (b : Bool). is_some (cond b (Some v.1) (find bytes_cmp id vs))) (bytes_ties id v.0) ∙ by (bytes_eq id v.0) (found vs)
      where
        by : (b : Bool) → is_some (find bytes_cmp id vs) ≡ list_any (λ u. bytes_eq id u.0) vs → is_some (cond b (Some v.1) (find bytes_cmp id vs)) ≡ (b || list_any (λ u. bytes_eq id u.0) vs)
        by true rest = refl
        by false rest = rest

-- so an id is used in a block after these uses where it has a use by then
pub is_used-by_uses : (m : FirstUses) (us : List (List ℕ × FirstUse)) (id : List ℕ) → is_used m (map (λ u. u.0) us) (Some id) ≡ contains_key (with_uses m us) id
is_used-by_uses m us id = ap (λ (b : Bool). (contains_key m id || b) || false) (among us) ∙ or-false (contains_key m id || list_any (λ u. bytes_eq id u.0) us) ∙ sym (contains-with_uses m us id)
  where
    among : (vs : List (List ℕ × FirstUse)) → list_any (bytes_eq id) (map (λ v. v.0) vs) ≡ list_any (λ v. bytes_eq id v.0) vs
    among [] = refl
    among (v ∷ vs) = ap (λ (b : Bool). bytes_eq id v.0 || b) (among vs)

-- ---- the uses that count

-- the others may be left out
pub with_uses-new : (m : FirstUses) (us : List (List ℕ × FirstUse)) → with_uses m (new_uses m us) ≡ with_uses m us
unfolding with_uses
with_uses-new m [] = refl
with_uses-new m (u ∷ us) = by (contains_key m u.0) refl (with_uses-new m us) (with_uses-new (insert m u.0 u.1) us)
  where
    by : (b : Bool) → contains_key m u.0 ≡ b → with_uses m (new_uses m us) ≡ with_uses m us → with_uses (insert m u.0 u.1) (new_uses (insert m u.0 u.1) us) ≡ with_uses (insert m u.0 u.1) us
        → with_uses m (cond b (new_uses m us) (u ∷ new_uses (insert m u.0 u.1) us)) ≡ with_uses (cond b m (insert m u.0 u.1)) us
    by true e old new = old
    by false e old new = ap (λ (b : Bool). with_uses (cond b m (insert m u.0 u.1)) (new_uses (insert m u.0 u.1) us)) e ∙ new

-- one use more at the end counts where its id has none by then
pub new_uses-push : (m : FirstUses) (us : List (List ℕ × FirstUse)) (u : List ℕ × FirstUse) → new_uses m (us ++ u ∷ []) ≡ new_uses m us ++ cond (contains_key (with_uses m us) u.0) [] (u ∷ [])
unfolding with_uses
new_uses-push m [] u = refl
new_uses-push m (v ∷ us) u = by (contains_key m v.0) (new_uses-push m us u) (new_uses-push (insert m v.0 v.1) us u)
  where
    by : (b : Bool) → new_uses m (us ++ u ∷ []) ≡ new_uses m us ++ cond (contains_key (with_uses m us) u.0) [] (u ∷ [])
        → new_uses (insert m v.0 v.1) (us ++ u ∷ []) ≡ new_uses (insert m v.0 v.1) us ++ cond (contains_key (with_uses (insert m v.0 v.1) us) u.0) [] (u ∷ [])
        → cond b (new_uses m (us ++ u ∷ [])) (v ∷ new_uses (insert m v.0 v.1) (us ++ u ∷ [])) ≡ cond b (new_uses m us) (v ∷ new_uses (insert m v.0 v.1) us) ++ cond (contains_key (with_uses (cond b m (insert m v.0 v.1)) us) u.0) [] (u ∷ [])
    by true old new = old
    by false old new = ap (λ (l : List (List ℕ × FirstUse)). v ∷ l) new
