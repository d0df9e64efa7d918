-- What is sure, whatever the verdict.
use Rattle.std.proofs.Common.{◌≡◌, ℕ, ◌<◌, Bool, false, Option, Some, ap, sym, ◌∙◌}
use Rattle.std.specs.Prelude.{unwrap_or}
use Rattle.rules.specs.Assignment.{Assignment}
use Rattle.rules.specs.Sure.{Agrees, Sure}

-- what isn't known is called no
abbrev pub as_known : (ℕ → Option Bool) → Assignment
as_known known h = unwrap_or (known h) false

pub agrees-as_known : (known : ℕ → Option Bool) (i : ℕ) → Agrees known i (as_known known)
agrees-as_known known i h b lt e = ap (λ (o : Option Bool). unwrap_or o false) e

-- one verdict is sure at most
pub one_sure : {V : Type 0} (verdict : Assignment → ℕ → V) (known : ℕ → Option Bool) (i : ℕ) (v w : V) → Sure verdict known i v → Sure verdict known i w → v ≡ w
one_sure verdict known i v w sure_v sure_w = sym (sure_v (as_known known) (agrees-as_known known i)) ∙ sure_w (as_known known) (agrees-as_known known i)

-- all that is known before i is known there too
abbrev pub KnowsMore : (ℕ → Option Bool) → (ℕ → Option Bool) → ℕ → Type 0
KnowsMore less more i = (h : ℕ) (b : Bool) → h < i → less h ≡ Some b → more h ≡ Some b

-- where more is known, what was sure still is
pub still_sure : {V : Type 0} (verdict : Assignment → ℕ → V) (less more : ℕ → Option Bool) (i : ℕ) (v : V) → KnowsMore less more i → Sure verdict less i v → Sure verdict more i v
still_sure verdict less more i v knows sure called agrees = sure called (λ h b lt e. agrees h b lt (knows h b lt e))
