-- What was taken in ahead may wait for its turn.
use Rattle.std.proofs.Common.{◌≡◌, ℕ, List, Result, Ok, Err, Option, IfOk, sym, subst}
use Rattle.std.specs.Result.{result_ok}
use Rattle.std.specs.declared.alloc.AllocError.{AllocError}
use Rattle.channel.specs.Configuration.{Configuration}
use Rattle.policy_eval.specs.Accepts.{Accepts}
use Rattle.rules.specs.declared.answer.Refused.{Refused}
use Rattle.rules.specs.World.{World}
use Rattle.next_block.specs.declared.prepared.Prepared.{Prepared}
use Rattle.commit.specs.Prepared.{MayBeTakenIn, MayWait}

pub waits : (channel : Configuration) (accepts : Accepts) (bytes : List ℕ) (made : Result (Result Prepared Refused) AllocError) (next : Option (Result Prepared Refused)) (w : World)
    → next ≡ result_ok made → IfOk made (MayBeTakenIn channel accepts bytes) → MayWait channel accepts w bytes next
waits channel accepts bytes (Ok taken) next w is may = subst (λ (n : Option (Result Prepared Refused)). MayWait channel accepts w bytes n) (sym is) (may.by w)
waits channel accepts bytes (Err e) next w is may = subst (λ (n : Option (Result Prepared Refused)). MayWait channel accepts w bytes n) (sym is) tt
