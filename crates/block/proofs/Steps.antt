-- Steps that may fail, one after the other.
use Rattle.std.proofs.Common.{◌≡◌, ◌⊎◌, Bool, true, false, cond, Result, Ok, Err, refl, inl, inr}
use Rattle.block.specs.declared.fault.BlockFault.{BlockFault}
use Rattle.block.specs.Reading.{◌>>=◌}

-- the value of a step that did not fail
pub bind_ok : {A B : Type 0} (r : Result A BlockFault) (f : A → Result B BlockFault) (y : B) → (r >>= f) ≡ Ok y → (x : A) × (r ≡ Ok x) × (f x ≡ Ok y)
bind_ok (Ok x) f y e = (x, refl, e)
bind_ok (Err d) f y e = absurd cc

-- which step failed
pub bind_err : {A B : Type 0} (r : Result A BlockFault) (f : A → Result B BlockFault) (d : BlockFault) → (r >>= f) ≡ Err d → (r ≡ Err d) ⊎ ((x : A) × (r ≡ Ok x) × (f x ≡ Err d))
bind_err (Ok x) f d e = inr (x, refl, e)
bind_err (Err c) f d e = inl (let same : c ≡ d = cc in rw same refl)

-- a test that rejects, and one that accepts
pub refused_ok : {A : Type 0} (b : Bool) (d : BlockFault) (r : Result A BlockFault) (y : A) → cond b (Err d) r ≡ Ok y → (b ≡ false) × (r ≡ Ok y)
refused_ok true d r y e = absurd cc
refused_ok false d r y e = (refl, e)

pub refused_err : {A : Type 0} (b : Bool) (d f : BlockFault) (r : Result A BlockFault) → cond b (Err d) r ≡ Err f → ((b ≡ true) × (d ≡ f)) ⊎ ((b ≡ false) × (r ≡ Err f))
refused_err true d f r e = inl (refl, cc)
refused_err false d f r e = inr (refl, e)

pub taken_ok : {A : Type 0} (b : Bool) (d : BlockFault) (r : Result A BlockFault) (y : A) → cond b r (Err d) ≡ Ok y → (b ≡ true) × (r ≡ Ok y)
taken_ok true d r y e = (refl, e)
taken_ok false d r y e = absurd cc

pub taken_err : {A : Type 0} (b : Bool) (d f : BlockFault) (x : A) → cond b (Ok x) (Err d) ≡ Err f → (b ≡ false) × (d ≡ f)
taken_err true d f x e = absurd cc
taken_err false d f x e = (refl, cc)

abbrev done : {A : Type 0} → A → Result A BlockFault
done x = Ok x

pub ok_is : {A : Type 0} (x y : A) → done x ≡ done y → x ≡ y
ok_is x y e = cc

pub ok_not_err : {A : Type 0} (x : A) (f : BlockFault) → done x ≡ Err f → ⊥
ok_not_err x f e = absurd cc
