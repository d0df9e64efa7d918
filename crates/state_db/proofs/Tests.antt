-- Tests, and answers of comparisons.
use Rattle.std.proofs.Common.{◌≡◌, Bool, true, false, ◌||◌, T, refl}
use Rattle.std.specs.declared.cmp.Ordering.{Ordering}
use Rattle.std.specs.declared.cmp.Ordering.TheVariants.{Less, Equal, Greater}
use Rattle.std.specs.Ordering.{is_lt, is_eq}

pub told : (b : Bool) → b ≡ true → T b
told true h = tt
told false h = absurd cc

pub shown : (b : Bool) → T b → b ≡ true
shown true h = refl
shown false h = absurd h

pub is_Less : (o : Ordering) → is_lt o ≡ true → o ≡ Less
is_Less Less e = refl
is_Less Equal e = absurd cc
is_Less Greater e = absurd cc

pub is_Greater : (o : Ordering) → is_lt o ≡ false → is_eq o ≡ false → o ≡ Greater
is_Greater Less e f = absurd cc
is_Greater Equal e f = absurd cc
is_Greater Greater e f = refl

-- what fails in all that is there fails in a part of it
pub second_false : (a b : Bool) → (a || b) ≡ false → b ≡ false
second_false true b e = absurd cc
second_false false b e = e
