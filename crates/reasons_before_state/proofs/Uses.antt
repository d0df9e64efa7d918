-- Places that use an id.
use Rattle.std.proofs.Common.{◌≡◌, ℕ, zero, suc, ◌+◌, Bool, not, cond, List, [], ◌∷◌, map, take, position, Option, Some, None, refl, ap, ◌∙◌}
use Rattle.std.specs.Prelude.{nat_lt, option_to_list}
use Rattle.std.specs.List.{list_any, prefix_len}
use Rattle.std.specs.Str.{bytes_eq}
use Rattle.std.specs.FinMap.{get}
use Rattle.std.proofs.lemmas.List.{length-map}
use Rattle.transaction.specs.declared.item.Item.{Item}
use Rattle.policy_eval.specs.Accepts.{Accepts}
use Rattle.channel.specs.Configuration.{Configuration}
use Rattle.rules.specs.declared.first_use.FirstUse.{FirstUse}
use Rattle.rules.specs.Candidate.{used_id}
use Rattle.rules.specs.Commit.{job_of}
use Rattle.rules.specs.Fold.{flag}
use Rattle.rules.specs.World.{World}
use Rattle.reasons.specs.declared.id_use.IdUse.{IdUse}
use Rattle.reasons.specs.declared.id_use.IdUse.TheVariants.{Earlier, Here}
use Rattle.reasons.specs.Identity.{uses_id, IsFirstUse}

prefix_len-map : {A B : Type 0} (f : A → B) (p : B → Bool) (xs : List A) → prefix_len p (map f xs) ≡ prefix_len (λ x. p (f x)) xs
prefix_len-map f p [] = refl
prefix_len-map f p (x ∷ xs) = ap (λ (n : ℕ). cond (p (f x)) (1 + n) 0) (prefix_len-map f p xs)

position-map : {A B : Type 0} (f : A → B) (p : B → Bool) (xs : List A) → position p (map f xs) ≡ position (λ x. p (f x)) xs
position-map f p xs = λ t. cond (nat_lt (prefix_len-map f (λ y. not (p y)) xs t) (length-map xs f t)) (Some (prefix_len-map f (λ y. not (p y)) xs t)) None

take-map : {A B : Type 0} (f : A → B) (n : ℕ) (xs : List A) → take n (map f xs) ≡ map f (take n xs)
take-map f zero xs = refl
take-map f (suc n) [] = refl
take-map f (suc n) (x ∷ xs) = ap (λ (ys : _). f x ∷ ys) (take-map f n xs)

module _ (channel : Configuration) (accepts : Accepts) (w : World) (ids : List (Option (List ℕ))) (items : List (Option Item)) (same : ids ≡ map (used_id channel accepts) items) (id : List ℕ) (i : ℕ) where
  place_is : position (λ used. list_any (bytes_eq id) (option_to_list used)) (take i ids) ≡ position (uses_id channel accepts id) (take i items)
  place_is =
      ap (λ (l : List (Option (List ℕ))). position (λ used. list_any (bytes_eq id) (option_to_list used)) (take i l)) same
      ∙ ap (λ (l : List (Option (List ℕ))). position (λ used. list_any (bytes_eq id) (option_to_list used)) l) (take-map (used_id channel accepts) i items)
      ∙ position-map (used_id channel accepts) (λ used. list_any (bytes_eq id) (option_to_list used)) (take i items)

  pub earlier_use : (first : FirstUse) → get w.first_uses id ≡ Some first → (used_at : IdUse) → IsFirstUse channel accepts w items i id used_at → Some (Earlier first.block first.place first.flag) ≡ Some used_at
  earlier_use first is (Earlier block place given) used =
      ap (λ (f : FirstUse). Some (Earlier f.block f.place f.flag)) (some_same (get w.first_uses id) first (record { block = block; place = place; flag = given }) is used)
    where
      some_same : {X : Type 0} (o : Option X) (x y : X) → o ≡ Some x → o ≡ Some y → x ≡ y
      some_same None x y e f = absurd cc
      some_same (Some z) x y e f = cc
  earlier_use first is (Here place given) used = absurd (cc (is, used.0))

  pub use_here : get w.first_uses id ≡ None → (found : Option ℕ) → found ≡ position (λ used. list_any (bytes_eq id) (option_to_list used)) (take i ids) → (used_at : IdUse) → IsFirstUse channel accepts w items i id used_at
      → (place : ℕ) × (found ≡ Some place) × (used_at ≡ Here place (flag (job_of channel accepts w items) place))
  use_here none found is (Earlier block place given) used = absurd (cc (none, used))
  use_here none found is (Here place given) used = (place, is ∙ place_is ∙ used.1, ap (Here place) used.2)
