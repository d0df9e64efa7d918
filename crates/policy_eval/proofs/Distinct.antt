-- Signers are the endorsers with an accepted signature, each once.
use Rattle.std.proofs.Common.{◌≡◌, ◌≢◌, ℕ, zero, suc, ◌<◌, List, [], ◌∷◌, length, get_or, map, Bool, true, false, cond, refl, sym, ap, subst, ◌∙◌, inl, inr, arith}
use Rattle.std.specs.Prelude.{◌⊎◌, ◌↔◌, not, filter, ◌==◌, AllPairs}
use Rattle.std.specs.List.{AllByRecursion, Contains}
use Rattle.std.proofs.lemmas.Slice.Eq.{bytes_eq-Decides}
use Rattle.transaction.specs.declared.identity.Identity.{Identity}
use Rattle.transaction.specs.declared.identity.Role.{Role}
use Rattle.transaction.specs.declared.identity.Role.TheVariants.{Admin, Client, Peer, Orderer}
use Rattle.transaction.specs.declared.transaction.Endorsement.{Endorsement}
use Rattle.transaction.specs.Grammar.{role_byte}
use Rattle.transaction.specs.Same.{is_same_identity}
use Rattle.policy_eval.specs.Accepts.{Accepts}
use Rattle.policy_eval.specs.Signers.{each_once}
use Rattle.policy_eval.specs.Over.{is_accepted_over, signers_over}
use Rattle.policy_eval.proofs.Once.{same_is, differs}
use Rattle.policy_eval.proofs.Pairs.{Pairwise, all_pairs}

-- ---- membership by recursion

abbrev IsIn : {X : Type 0} → X → List X → Type 0
IsIn x [] = ⊥
IsIn x (y ∷ ys) = (y ≡ x) ⊎ IsIn x ys

at_in : {X : Type 0} (xs : List X) (k : ℕ) (x : X) → k < length xs → get_or xs k x ≡ x → IsIn x xs
at_in [] k x h e = absurd (omega arith)
at_in (y ∷ ys) zero x h e = inl e
at_in (y ∷ ys) (suc k) x h e = inr (at_in ys k x (omega arith) e)

in_from : {X : Type 0} (xs : List X) (x : X) → Contains xs x → IsIn x xs
in_from xs x h = at_in xs h.0 x h.1 h.2

contains_from : {X : Type 0} (xs : List X) (x : X) → IsIn x xs → Contains xs x
contains_from [] x h = absurd h
contains_from (y ∷ ys) x (inl e) = (0, omega arith, e)
contains_from (y ∷ ys) x (inr h) = let c = contains_from ys x h in (suc c.0, omega (arith, c.1), c.2)

-- ---- what a filter keeps

kept : {X : Type 0} (p : X → Bool) (y x : X) (others : List X) (b : Bool) → p y ≡ b → (y ≡ x) ⊎ IsIn x others → p x ≡ true → IsIn x (cond b (y ∷ others) others)
kept p y x others true e h q = h
kept p y x others false e (inl same) q = let both : false ≡ true = sym e ∙ ap p same ∙ q in absurd cc
kept p y x others false e (inr h) q = h

filter_in : {X : Type 0} (p : X → Bool) (xs : List X) (x : X) → IsIn x xs → p x ≡ true → IsIn x (filter p xs)
filter_in p [] x h q = absurd h
filter_in p (y ∷ ys) x (inl e) q = kept p y x (filter p ys) (p y) refl (inl e) q
filter_in p (y ∷ ys) x (inr h) q = kept p y x (filter p ys) (p y) refl (inr (filter_in p ys x h q)) q

was : {X : Type 0} (p : X → Bool) (y x : X) (ys others : List X) (b : Bool) → p y ≡ b → (IsIn x others → IsIn x ys × (p x ≡ true)) → IsIn x (cond b (y ∷ others) others) → ((y ≡ x) ⊎ IsIn x ys) × (p x ≡ true)
was p y x ys others true e f (inl same) = (inl same, ap p (sym same) ∙ e)
was p y x ys others true e f (inr h) = (inr (f h).0, (f h).1)
was p y x ys others false e f h = (inr (f h).0, (f h).1)

from_filter : {X : Type 0} (p : X → Bool) (xs : List X) (x : X) → IsIn x (filter p xs) → IsIn x xs × (p x ≡ true)
from_filter p [] x h = absurd h
from_filter p (y ∷ ys) x h = was p y x ys (filter p ys) (p y) refl (from_filter p ys x) h

all_filtered : {X : Type 0} (p : X → Bool) (P : X → Type 0) → ((x : X) → p x ≡ true → P x) → (xs : List X) → AllByRecursion P (filter p xs)
all_filtered p P f [] = tt
all_filtered p P f (y ∷ ys) = by (p y) refl (all_filtered p P f ys)
  where
    by : (b : Bool) → p y ≡ b → AllByRecursion P (filter p ys) → AllByRecursion P (cond b (y ∷ filter p ys) (filter p ys))
    by true e h = (f y e, h)
    by false e h = h

all_of_filter : {X : Type 0} (p : X → Bool) (P : X → Type 0) (xs : List X) → AllByRecursion P xs → AllByRecursion P (filter p xs)
all_of_filter p P [] h = tt
all_of_filter p P (y ∷ ys) h = by (p y) (all_of_filter p P ys h.1)
  where
    by : (b : Bool) → AllByRecursion P (filter p ys) → AllByRecursion P (cond b (y ∷ filter p ys) (filter p ys))
    by true k = (h.0, k)
    by false k = k

pairwise_filter : {X : Type 0} (R : X → X → Type 0) (p : X → Bool) (xs : List X) → Pairwise R xs → Pairwise R (filter p xs)
pairwise_filter R p [] h = tt
pairwise_filter R p (y ∷ ys) h = by (p y) (all_of_filter p (R y) ys h.0) (pairwise_filter R p ys h.1)
  where
    by : (b : Bool) → AllByRecursion (R y) (filter p ys) → Pairwise R (filter p ys) → Pairwise R (cond b (y ∷ filter p ys) (filter p ys))
    by true a k = (a, k)
    by false a k = k

-- ---- what a map gives

map_in : {X Y : Type 0} (f : X → Y) (xs : List X) (x : X) → IsIn x xs → IsIn (f x) (map f xs)
map_in f [] x h = absurd h
map_in f (y ∷ ys) x (inl e) = inl (ap f e)
map_in f (y ∷ ys) x (inr h) = inr (map_in f ys x h)

from_map : {X Y : Type 0} (f : X → Y) (xs : List X) (y : Y) → IsIn y (map f xs) → (x : X) × IsIn x xs × (f x ≡ y)
from_map f [] y h = absurd h
from_map f (x ∷ xs) y (inl e) = (x, inl refl, e)
from_map f (x ∷ xs) y (inr h) = let c = from_map f xs y h in (c.0, inr c.1, c.2)

-- ---- each once

same_role_byte : (r : Role) → (role_byte r == role_byte r) ≡ true
same_role_byte Admin = refl
same_role_byte Client = refl
same_role_byte Peer = refl
same_role_byte Orderer = refl

same_self : (i : Identity) → is_same_identity i i ≡ true
same_self i = rw ((bytes_eq-Decides i.org i.org).1 refl, same_role_byte i.role, (bytes_eq-Decides i.label i.label).1 refl) refl

differ : (i other : Identity) → differs i other ≡ true → i ≢ other
differ i other e = λ same. let both : is_same_identity i other ≡ true = ap (is_same_identity i) (sym same) ∙ same_self i in absurd (cc (ap not both))

or_itself : (i x : Identity) (is : List Identity) (b : Bool) → is_same_identity i x ≡ b → IsIn x is → (i ≡ x) ⊎ IsIn x (filter (differs i) is)
or_itself i x is true e h = inl (same_is i x e)
or_itself i x is false e h = inr (filter_in (differs i) is x h (ap not e))

once_in : (is : List Identity) (x : Identity) → IsIn x is → IsIn x (each_once is)
once_in [] x h = absurd h
once_in (i ∷ is) x (inl e) = inl e
once_in (i ∷ is) x (inr h) = or_itself i x (each_once is) (is_same_identity i x) refl (once_in is x h)

from_once : (is : List Identity) (x : Identity) → IsIn x (each_once is) → IsIn x is
from_once [] x h = absurd h
from_once (i ∷ is) x (inl e) = inl e
from_once (i ∷ is) x (inr h) = inr (from_once is x (from_filter (differs i) (each_once is) x h).0)

once_differ : (is : List Identity) → Pairwise (λ (a b : Identity). a ≢ b) (each_once is)
once_differ [] = tt
once_differ (i ∷ is) =
    (all_filtered (differs i) (λ other. i ≢ other) (differ i) (each_once is), pairwise_filter (λ (a b : Identity). a ≢ b) (differs i) (each_once is) (once_differ is))

-- ---- signers over a body

abbrev endorser_of : Endorsement → Identity
endorser_of e = e.endorser

module _ (accepts : Accepts) (body : List ℕ) (es : List Endorsement) where
  abbrev accepted : List Endorsement
  accepted = filter (is_accepted_over accepts body) es

  abbrev pub HasSignedOver : Identity → Type 0
  HasSignedOver identity = (e : Endorsement) × Contains es e × (e.endorser ≡ identity) × (is_accepted_over accepts body e ≡ true)

  pub signers_are : (identity : Identity) → Contains (signers_over accepts body es) identity ↔ HasSignedOver identity
  signers_are identity = (to, from)
    where
      to : Contains (signers_over accepts body es) identity → HasSignedOver identity
      to h =
          let e = from_map endorser_of accepted identity (from_once (map endorser_of accepted) identity (in_from (signers_over accepts body es) identity h)) in
          let w = from_filter (is_accepted_over accepts body) es e.0 e.1 in
          (e.0, contains_from es e.0 w.0, e.2, w.1)

      from : HasSignedOver identity → Contains (signers_over accepts body es) identity
      from h =
          let e = filter_in (is_accepted_over accepts body) es h.0 (in_from es h.0 h.1) h.3 in
          let its : IsIn h.0.endorser (signers_over accepts body es) = once_in (map endorser_of accepted) h.0.endorser (map_in endorser_of accepted h.0 e) in
          contains_from (signers_over accepts body es) identity (subst (λ i. IsIn i (signers_over accepts body es)) h.2 its)

  pub signers_differ : AllPairs (λ (a b : Identity). a ≢ b) (signers_over accepts body es)
  signers_differ = all_pairs (λ (a b : Identity). a ≢ b) (signers_over accepts body es) (once_differ (map endorser_of accepted))
