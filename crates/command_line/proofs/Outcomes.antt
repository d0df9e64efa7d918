-- From what is known of an outcome to what the process ends with.
use Rattle.std.proofs.Common.{◌≡◌, ◌<◌, ℕ, ◌⊎◌, inl, inr, Result, Ok, Err, IfOk, IfErr, sym, subst, arith}
use Rattle.command_files.specs.declared.fault.Fault.{Fault}
use Rattle.command_files.specs.declared.fault.Fault.TheVariants.{Word, Unreadable, Unwritable, Line, NoChannel, NotABlock, NoTransaction, UnknownId, Output, Memory}
use Rattle.command_files.specs.Status.{status_of}

not_below : (fault : Fault) → status_of fault < 2 → ⊥
not_below Word h = omega (arith, h)
not_below (Unreadable path) h = omega (arith, h)
not_below (Unwritable path) h = omega (arith, h)
not_below (Line path line) h = omega (arith, h)
not_below (NoChannel path) h = omega (arith, h)
not_below (NotABlock path) h = omega (arith, h)
not_below (NoTransaction place) h = omega (arith, h)
not_below (UnknownId id) h = omega (arith, h)
not_below Output h = omega (arith, h)
not_below Memory h = omega (arith, h)

pub ends : (P : ℕ → Type 0) (outcome : Result ℕ Fault) (status : ℕ) → IfOk outcome P → IfOk outcome (λ s. status ≡ s) → IfErr outcome (λ fault. status ≡ status_of fault) → status < 2 → P status
ends P (Ok s) status holds ok fault below = subst P (sym ok) holds
ends P (Err e) status holds ok fault below = absurd (not_below e (subst (λ n. n < 2) fault below))

-- Either it is done, or this fault ended it.
pub done_or_ended : (P : ℕ → Type 0) (Q : Fault → Type 0) (outcome : Result ℕ Fault) (status : ℕ)
    → IfOk outcome P → IfErr outcome Q → IfOk outcome (λ s. status ≡ s) → IfErr outcome (λ fault. status ≡ status_of fault) → P status ⊎ ((fault : Fault) × (status ≡ status_of fault) × Q fault)
done_or_ended P Q (Ok s) status holds fails ok fault = inl (subst P (sym ok) holds)
done_or_ended P Q (Err e) status holds fails ok fault = inr (e, fault, fails)
