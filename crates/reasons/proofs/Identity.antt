-- An id that is used has a first use, and where not all is defined there is a first name that isn't.
use Rattle.std.proofs.Common.{◌≡◌, ℕ, ◌+◌, ◌<◌, Bool, true, false, cond, not, ◌&&◌, ◌||◌, List, [], ◌∷◌, map, take, length, position, Option, Some, None, is_some, option_to_list, refl, sym, ap, ◌∙◌, take, length-take, arith, lt-ltb}
use Rattle.std.specs.Str.{bytes_eq}
use Rattle.std.specs.List.{list_any, position_or_len}
use Rattle.std.specs.FinMap.{get, contains_key}
use Rattle.std.proofs.lemmas.List.Folds.{list_any-append, list_all-map}
use Rattle.std.proofs.lemmas.List.Quantifiers.{position-Some}
use Rattle.transaction.specs.declared.transaction.Tx.{Tx}
use Rattle.policy.specs.Policies.{Policies}
use Rattle.transaction.specs.declared.item.Item.{Item}
use Rattle.policy_eval.specs.Accepts.{Accepts}
use Rattle.channel.specs.Configuration.{Configuration}
use Rattle.rules.specs.declared.first_use.FirstUse.{FirstUse}
use Rattle.rules.specs.Effect.{written_keys}
use Rattle.rules.specs.Candidate.{is_defined, is_all_defined, used_id, is_used}
use Rattle.rules.specs.Commit.{job_of}
use Rattle.rules.specs.Fold.{flag}
use Rattle.rules.specs.World.{World}
use Rattle.rules.proofs.Booleans.{or-false}
use Rattle.rules.proofs.Candidates.{ids_of}
use Rattle.reasons.specs.declared.id_use.IdUse.{IdUse}
use Rattle.reasons.specs.declared.id_use.IdUse.TheVariants.{Earlier, Here}
use Rattle.reasons.specs.Identity.{uses_id, IsFirstUse, first_undefined}
use Rattle.reasons.proofs.Lists.{some_is, some_and_none, found_if}

-- ---- a place

inside : {X : Type 0} (p : X → Bool) (xs : List X) → list_any p xs ≡ true → position_or_len p xs < length xs
inside p [] e = absurd cc
inside p (x ∷ xs) e = by (p x) e (inside p xs)
  where
    by : (b : Bool) → (b || list_any p xs) ≡ true → (list_any p xs ≡ true → position_or_len p xs < length xs) → cond (not b) (1 + position_or_len p xs) 0 < length (x ∷ xs)
    by true e rest = omega arith
    by false e rest = let lt = rest e in omega (arith, lt)

place_if : {X : Type 0} (p : X → Bool) (xs : List X) → list_any p xs ≡ true → position p xs ≡ Some (position_or_len p xs)
place_if p xs e = ap (λ (b : Bool). cond b (Some (position_or_len p xs)) None) (lt-ltb (position_or_len p xs) (length xs) (inside p xs e))

-- of those before place i
pub place_before : (p : Option Item → Bool) (txs : List (Option Item)) (i h : ℕ) → position p (take i txs) ≡ Some h → h < i
place_before p txs i h e =
    let lt = (position-Some p (take i txs) h None e).0 in
    let long = length-take i txs in
    omega (arith, lt, long)

-- ---- first uses

module _ (channel : Configuration) (accepts : Accepts) where
  any-ids : (id : List ℕ) (txs : List (Option Item)) → list_any (bytes_eq id) (ids_of channel accepts txs) ≡ list_any (uses_id channel accepts id) txs
  any-ids id [] = refl
  any-ids id (tx ∷ txs) =
      list_any-append (bytes_eq id) (option_to_list (used_id channel accepts tx)) (ids_of channel accepts txs)
      ∙ ap (λ (b : Bool). uses_id channel accepts id tx || b) (any-ids id txs)

  pub first_use_if : (w : World) (items : List (Option Item)) (i : ℕ) (id : List ℕ) → is_used w.first_uses (ids_of channel accepts (take i items)) (Some id) ≡ true
      → (first : IdUse) × IsFirstUse channel accepts w items i id first
  first_use_if w items i id e = by (get w.first_uses id) refl (sym (or-false (contains_key w.first_uses id || list_any (bytes_eq id) (ids_of channel accepts before))) ∙ e)
    where
      before : List (Option Item)
      before = take i items

      place : ℕ
      place = position_or_len (uses_id channel accepts id) before

      by : (o : Option FirstUse) → get w.first_uses id ≡ o → (is_some o || list_any (bytes_eq id) (ids_of channel accepts before)) ≡ true
          → (first : IdUse) × IsFirstUse channel accepts w items i id first
      by (Some u) is e = (Earlier u.block u.place u.flag, is)
      by None is e = (Here place (flag (job_of channel accepts w items) place), (is, place_if (uses_id channel accepts id) before (sym (any-ids id before) ∙ e), refl))

pub one_use : (channel : Configuration) (accepts : Accepts) (w : World) (txs : List (Option Item)) (at : ℕ) (id : List ℕ) (a b : IdUse)
    → IsFirstUse channel accepts w txs at id a → IsFirstUse channel accepts w txs at id b → a ≡ b
one_use channel accepts w txs at id (Earlier m h f) (Earlier n i g) x y =
    let u : FirstUse = record { block = m; place = h; flag = f } in
    let v : FirstUse = record { block = n; place = i; flag = g } in
    let same : u ≡ v = some_is u v (sym x ∙ y) in
    ap (λ (z : FirstUse). Earlier z.block z.place z.flag) same
one_use channel accepts w txs at id (Earlier m h f) (Here i g) x y = let u : FirstUse = record { block = m; place = h; flag = f } in absurd (some_and_none u (sym x ∙ y.0))
one_use channel accepts w txs at id (Here h f) (Earlier n i g) x y = let v : FirstUse = record { block = n; place = i; flag = g } in absurd (some_and_none v (sym y ∙ x.0))
one_use channel accepts w txs at id (Here h f) (Here i g) x y =
    let place : h ≡ i = some_is h i (sym x.1 ∙ y.1) in
    let given : f ≡ g = x.2 ∙ ap (flag (job_of channel accepts w txs)) place ∙ sym y.2 in
    λ t. Here (place t) (given t)

-- ---- definitions

pub undefined_if : (definitions : Policies) (tx : Tx) → is_all_defined definitions tx ≡ false → (name : List ℕ) × (first_undefined definitions tx ≡ Some name)
undefined_if definitions tx e =
    found_if (is_defined definitions) (tx.chaincode ∷ map (λ k. k.0) (written_keys tx))
    (ap (λ (b : Bool). is_defined definitions tx.chaincode && b) (list_all-map (is_defined definitions) (λ k. k.0) (written_keys tx)) ∙ e)
