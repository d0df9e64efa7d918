-- What is found in a list, and whether anything is.
use Rattle.std.proofs.Common.{◌≡◌, ℕ, zero, suc, ◌<◌, Bool, true, false, cond, not, ◌&&◌, List, [], ◌∷◌, map, find, length, get_or, slice_get, Option, Some, None, is_none, option_map, refl, sym, ap, ◌∙◌, arith}
use Rattle.std.specs.Option.{option_or}
use Rattle.std.specs.List.{list_all}
use Rattle.rules.proofs.Booleans.{both_true}
use Rattle.reasons.specs.First.{first_there}

pub some_is : {X : Type 0} (x y : X) → Some x ≡ Some y → x ≡ y
some_is x y e = cc

pub some_and_none : {X : Type 0} (x : X) → Some x ≡ None → ⊥
some_and_none x e = absurd cc

pub some_if : {X : Type 0} (o : Option X) → is_none o ≡ false → (x : X) × (o ≡ Some x)
some_if None e = absurd cc
some_if (Some x) e = (x, refl)

pub not_true : (b : Bool) → not b ≡ true → b ≡ false
not_true true e = sym e
not_true false e = refl

pub and-same : {a b c d : Bool} → a ≡ c → b ≡ d → (a && b) ≡ (c && d)
and-same p q = λ i. p i && q i

pub all-same : {X : Type 0} (p q : X → Bool) → ((x : X) → p x ≡ q x) → (xs : List X) → list_all p xs ≡ list_all q xs
all-same p q same xs = λ i. list_all (λ x. same x i) xs

-- ---- none at all

pub none-or : {X : Type 0} (o p : Option X) → is_none (option_or o p) ≡ (is_none o && is_none p)
none-or None p = refl
none-or (Some x) p = refl

pub none-map : {X Y : Type 0} (f : X → Y) (o : Option X) → is_none (option_map f o) ≡ is_none o
none-map f None = refl
none-map f (Some x) = refl

pub none-first_there : {X Y : Type 0} (f : X → Option Y) (xs : List X) → is_none (first_there (map f xs)) ≡ list_all (λ x. is_none (f x)) xs
none-first_there f [] = refl
none-first_there f (x ∷ xs) = none-or (f x) (first_there (map f xs)) ∙ ap (λ (b : Bool). is_none (f x) && b) (none-first_there f xs)

-- none fails where all pass
pub none-find : {X : Type 0} (p : X → Bool) (xs : List X) → is_none (find (λ x. not (p x)) xs) ≡ list_all p xs
none-find p [] = refl
none-find p (x ∷ xs) = by (p x) (none-find p xs)
  where
    by : (b : Bool) → is_none (find (λ y. not (p y)) xs) ≡ list_all p xs → is_none (cond (not b) (Some x) (find (λ y. not (p y)) xs)) ≡ (b && list_all p xs)
    by true rest = rest
    by false rest = refl

pub found_if : {X : Type 0} (p : X → Bool) (xs : List X) → list_all p xs ≡ false → (x : X) × (find (λ y. not (p y)) xs ≡ Some x)
found_if p xs e = some_if (find (λ y. not (p y)) xs) (none-find p xs ∙ e)

-- ---- what is found

pub found-passes : {X : Type 0} (p : X → Bool) (xs : List X) (x : X) → find p xs ≡ Some x → p x ≡ true
found-passes p [] x e = absurd cc
found-passes p (y ∷ ys) x e = by (p y) refl e (found-passes p ys x)
  where
    by : (b : Bool) → p y ≡ b → cond b (Some y) (find p ys) ≡ Some x → (find p ys ≡ Some x → p x ≡ true) → p x ≡ true
    by true here e rest = ap p (sym (some_is y x e)) ∙ here
    by false here e rest = rest e

-- whatever all pass, it passes
pub found-all : {X : Type 0} (p q : X → Bool) (xs : List X) (x : X) → list_all q xs ≡ true → find p xs ≡ Some x → q x ≡ true
found-all p q [] x h e = absurd cc
found-all p q (y ∷ ys) x h e = let both = both_true (q y) (list_all q ys) h in by (p y) e both.0 (found-all p q ys x both.1)
  where
    by : (b : Bool) → cond b (Some y) (find p ys) ≡ Some x → q y ≡ true → (find p ys ≡ Some x → q x ≡ true) → q x ≡ true
    by true e here rest = ap q (sym (some_is y x e)) ∙ here
    by false e here rest = rest e

-- ---- a place in a list

pub get-inside : {X : Type 0} (xs : List X) (i : ℕ) → i < length xs → (x : X) × (slice_get xs i ≡ Some x)
get-inside [] i lt = absurd (omega arith)
get-inside (x ∷ xs) zero lt = (x, refl)
get-inside (x ∷ xs) (suc i) lt = get-inside xs i (omega arith)

pub get_or-map_at : {X Y : Type 0} (f : X → Y) (xs : List X) (i : ℕ) (d : Y) (x : X) → slice_get xs i ≡ Some x → get_or (map f xs) i d ≡ f x
get_or-map_at f [] i d x e = absurd cc
get_or-map_at f (y ∷ xs) zero d x e = ap f (some_is y x e)
get_or-map_at f (y ∷ xs) (suc i) d x e = get_or-map_at f xs i d x e

pub get_or-at : {X : Type 0} (xs : List X) (i : ℕ) (d x : X) → slice_get xs i ≡ Some x → get_or xs i d ≡ x
get_or-at [] i d x e = absurd cc
get_or-at (y ∷ xs) zero d x e = some_is y x e
get_or-at (y ∷ xs) (suc i) d x e = get_or-at xs i d x e
