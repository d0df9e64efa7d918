-- Which reasons the state tells, and when what is told is the reason. No public contract cites this.
use Rattle.std.specs.Prelude.{◌≡◌, ℕ, List, Bool, true, false, Option, Some}
use Rattle.transaction.specs.declared.item.Item.{Item}
use Rattle.policy_eval.specs.Accepts.{Accepts}
use Rattle.channel.specs.Configuration.{Configuration}
use Rattle.rules.specs.declared.flag.Flag.{Flag}
use Rattle.rules.specs.declared.flag.Flag.TheVariants.{EndorsementPolicyFailure, MvccReadConflict, PhantomReadConflict}
use Rattle.rules.specs.Job.{Job}
use Rattle.rules.specs.Commit.{job_of}
use Rattle.rules.specs.World.{World}
use Rattle.reasons.specs.declared.reason.Reason.{Reason}
use Rattle.reasons.specs.Reason.{flag_of, IsReason}

abbrev pub is_told_by_state : Flag → Bool
is_told_by_state EndorsementPolicyFailure = true
is_told_by_state MvccReadConflict = true
is_told_by_state PhantomReadConflict = true
is_told_by_state _ = false

-- whatever block the job is of, this is the reason of place i, where it has this flag
abbrev pub IsTheReason : Job → ℕ → Flag → Option Reason → Type 0
IsTheReason j i flag x =
    (channel : Configuration) (accepts : Accepts) (w : World) (items : List (Option Item)) (r : Reason) → j ≡ job_of channel accepts w items → flag_of r ≡ flag
    → IsReason channel accepts w items i r → x ≡ Some r
