-- A list whose last item is changed.
use Rattle.std.proofs.Common.{◌≡◌, ℕ, List, [], ◌∷◌, zero, suc, length, Bool, true, false, Option, Result, Ok, Err, ap, subst, arith, slice_index_or, slice_set}
use Rattle.std.specs.Prelude.{option_map}
use Rattle.std.specs.declared.alloc.AllocError.{AllocError}
use Rattle.scripts.specs.Script.{with_last}
use Rattle.scripts.specs.Taking.{Changes}

mapped : {A B : Type 0} (g : A → B) (r : Result Bool AllocError) (new : A) (wanted : Option A) → Changes r new wanted → Changes r (g new) (option_map g wanted)
mapped g (Ok true) new wanted is = ap (option_map g) is
mapped g (Ok false) new wanted is = ap (option_map g) is
mapped g (Err e) new wanted is = tt

pub last_set : {A : Type 0} (f : A → Option A) (items : List A) (k : ℕ) (x y : A) (r : Result Bool AllocError) → suc k ≡ length items → x ≡ slice_index_or items k x → Changes r y (f x) → Changes r (slice_set items k y) (with_last f items)
last_set f [] k x y r count is made = absurd (omega (arith, count))
last_set f (a ∷ []) zero x y r count is made = mapped (λ z. z ∷ []) r y (f a) (subst (λ z. Changes r y (f z)) is made)
last_set f (a ∷ []) (suc k) x y r count is made = absurd (omega (arith, count))
last_set f (a ∷ b ∷ more) zero x y r count is made = absurd (omega (arith, count))
last_set f (a ∷ b ∷ more) (suc k) x y r count is made =
    mapped (λ changed. a ∷ changed) r (slice_set (b ∷ more) k y) (with_last f (b ∷ more)) (last_set f (b ∷ more) k x y r (omega (arith, count)) is made)
