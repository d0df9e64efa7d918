-- The last place before n of what passes a test.
use Rattle.std.proofs.Common.{◌≡◌, ℕ, zero, suc, ◌+◌, ◌<◌, ◌≤◌, Bool, true, false, cond, List, [], ◌∷◌, ◌++◌, length, take, get_or, refl, sym, ap, ◌∙◌, add-one, arith}
use Rattle.std.specs.Prelude.{filter}
use Rattle.std.proofs.Math.Seq.{take-suc}
use Rattle.std.proofs.lemmas.List.{length-take-le, append-nil}
use Rattle.std.proofs.lemmas.Bool.{true≢false}
use Rattle.std.proofs.lemmas.List.Elements.{filter-append}
use Rattle.history_index.specs.Places.{place_or, last_place}

pub last_place-push : {A : Type 0} (test : A → Bool) (xs : List A) (x : A) → last_place test (xs ++ x ∷ []) ≡ cond (test x) (length xs + 1) (last_place test xs)
last_place-push test [] x = refl
last_place-push test (y ∷ xs) x = ap (λ n. place_or n (cond (test y) 1 0)) (last_place-push test xs x) ∙ by (test x)
  where
    by : (b : Bool) → place_or (cond b (length xs + 1) (last_place test xs)) (cond (test y) 1 0) ≡ cond b (suc (length xs) + 1) (place_or (last_place test xs) (cond (test y) 1 0))
    by true = ap (λ n. place_or n (cond (test y) 1 0)) (add-one (length xs)) ∙ sym (add-one (suc (length xs)))
    by false = refl

module _ {A : Type 0} (test : A → Bool) (xs : List A) where
  abbrev before : ℕ → ℕ
  before n = last_place test (take n xs)

  pub before-step : (n : ℕ) (d : A) → n < length xs → before (suc n) ≡ cond (test (get_or xs n d)) (suc n) (before n)
  before-step n d lt =
      ap (last_place test) (take-suc xs n d lt)
      ∙ last_place-push test (take n xs) (get_or xs n d)
      ∙ ap (λ m. cond (test (get_or xs n d)) m (before n)) (ap (λ m. m + 1) (length-take-le n xs (omega arith)) ∙ add-one n)

  either : (b : Bool) (n m p : ℕ) → p ≡ cond b (suc n) m → m ≤ n → p ≤ suc n
  either true n m p e h = omega arith
  either false n m p e h = omega arith

  some : (n : ℕ) → n < length xs → A
  some n lt = by xs lt
    where
      by : (ys : List A) → n < length ys → A
      by [] l = absurd (omega arith)
      by (y ∷ ys) l = y

  -- it isn't after n
  pub before-bound : (n : ℕ) → n ≤ length xs → before n ≤ n
  before-bound zero h = omega arith
  before-bound (suc n) h =
      let lt : n < length xs = omega arith in
      either (test (get_or xs n (some n lt))) n (before n) (before (suc n)) (before-step n (some n lt) lt) (before-bound n (omega arith))

  -- it is the last one before itself
  pub before-still : (n : ℕ) → n ≤ length xs → before (before n) ≡ before n
  before-still zero h = refl
  before-still (suc n) h =
      let lt : n < length xs = omega arith in
      by (test (get_or xs n (some n lt))) (before-step n (some n lt) lt) (before-still n (omega arith))
    where
      by : (b : Bool) → before (suc n) ≡ cond b (suc n) (before n) → before (before n) ≡ before n → before (before (suc n)) ≡ before (suc n)
      by true e rest = ap before e
      by false e rest = ap before e ∙ rest ∙ sym e

  -- the items that pass another test, which implies this one, are all before it
  pub before-filter : (other : A → Bool) → ((x : A) → other x ≡ true → test x ≡ true)
      → (n : ℕ) → n ≤ length xs → filter other (take (before n) xs) ≡ filter other (take n xs)
  before-filter other only zero h = refl
  before-filter other only (suc n) h =
      let lt : n < length xs = omega arith in
      by (some n lt) lt (before-filter other only n (omega arith))
    where
      failed : (x : A) (b : Bool) → other x ≡ b → test x ≡ false → [] ≡ filter other (x ∷ [])
      failed x true e f = absurd (true≢false (sym (only x e) ∙ f))
      failed x false e f = ap (λ c. cond c (x ∷ []) []) (sym e)

      at : (d : A) → n < length xs → (b : Bool) → test (get_or xs n d) ≡ b → before (suc n) ≡ cond b (suc n) (before n) → filter other (take (before n) xs) ≡ filter other (take n xs)
          → filter other (take (before (suc n)) xs) ≡ filter other (take (suc n) xs)
      at d lt true e s rest = ap (λ m. filter other (take m xs)) s
      at d lt false e s rest =
          ap (λ m. filter other (take m xs)) s ∙ rest
          ∙ sym (append-nil (filter other (take n xs)))
          ∙ ap (λ l. filter other (take n xs) ++ l) (failed (get_or xs n d) (other (get_or xs n d)) refl e)
          ∙ sym (filter-append other (take n xs) (get_or xs n d ∷ []))
          ∙ ap (filter other) (sym (take-suc xs n d lt))

      by : (d : A) → n < length xs → filter other (take (before n) xs) ≡ filter other (take n xs) → filter other (take (before (suc n)) xs) ≡ filter other (take (suc n) xs)
      by d lt rest = at d lt (test (get_or xs n d)) refl (before-step n d lt) rest

  -- another test that implies this one has the same last place before n as before that place
  pub before-narrow : (other : A → Bool) → ((x : A) → other x ≡ true → test x ≡ true)
      → (n : ℕ) → n ≤ length xs → last_place other (take (before n) xs) ≡ last_place other (take n xs)
  before-narrow other only zero h = refl
  before-narrow other only (suc n) h =
      let lt : n < length xs = omega arith in
      by (some n lt) lt (before-narrow other only n (omega arith))
    where
      failed : (x : A) (b : Bool) → other x ≡ b → test x ≡ false → false ≡ other x
      failed x true e f = absurd (true≢false (sym (only x e) ∙ f))
      failed x false e f = sym e

      at : (d : A) → n < length xs → (b : Bool) → test (get_or xs n d) ≡ b → before (suc n) ≡ cond b (suc n) (before n) → last_place other (take (before n) xs) ≡ last_place other (take n xs)
          → last_place other (take (before (suc n)) xs) ≡ last_place other (take (suc n) xs)
      at d lt true e s rest = ap (λ m. last_place other (take m xs)) s
      at d lt false e s rest =
          ap (λ m. last_place other (take m xs)) s ∙ rest
          ∙ ap (λ b. cond b (length (take n xs) + 1) (last_place other (take n xs))) (failed (get_or xs n d) (other (get_or xs n d)) refl e)
          ∙ sym (last_place-push other (take n xs) (get_or xs n d))
          ∙ ap (last_place other) (sym (take-suc xs n d lt))

      by : (d : A) → n < length xs → last_place other (take (before n) xs) ≡ last_place other (take n xs) → last_place other (take (before (suc n)) xs) ≡ last_place other (take (suc n) xs)
      by d lt rest = at d lt (test (get_or xs n d)) refl (before-step n d lt) rest

  -- at it something passes
  pub before-hit : (n : ℕ) (d : A) → n < length xs → before (suc n) ≡ suc n → test (get_or xs n d) ≡ true
  before-hit n d lt e = by (test (get_or xs n d)) (before-step n d lt) (before-bound n (omega arith))
    where
      by : (b : Bool) → before (suc n) ≡ cond b (suc n) (before n) → before n ≤ n → b ≡ true
      by true s h = refl
      by false s h = absurd (omega (arith, e, s))
