-- What holds if a result is `Ok`.
use Rattle.std.proofs.Common.{◌≡◌, Result, Ok, Err, OnOk, IfOk, subst}

-- an outcome that is the one before it, with what is known of either
pub follows : {T E F : Type 0} (P R : T → Type 0) (Q : Type 0) (r : Result T E) (before : Result T F) → IfOk r (λ x. before ≡ Ok x) → IfOk before P → OnOk r Q → ((x : T) → P x → Q → R x) → IfOk r R
follows P R Q (Ok x) before same known also f = f x (subst (λ b. IfOk b P) same known) also
follows P R Q (Err e) before same known also f = tt

pub if_both : {T E : Type 0} (P Q R : T → Type 0) (r : Result T E) → IfOk r P → IfOk r Q → ((x : T) → P x → Q x → R x) → IfOk r R
if_both P Q R (Ok x) p q f = f x p q
if_both P Q R (Err e) p q f = tt
