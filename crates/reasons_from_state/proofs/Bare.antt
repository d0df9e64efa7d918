-- The reason that says no more than the flag, and flags of reasons.
use Rattle.std.proofs.Common.{◌≡◌, ℕ, true, List, Option, Some, refl, sym, ap, ◌∙◌}
use Rattle.transaction.specs.declared.item.Item.{Item}
use Rattle.policy_eval.specs.Accepts.{Accepts}
use Rattle.channel.specs.Configuration.{Configuration}
use Rattle.rules.specs.declared.flag.Flag.{Flag}
use Rattle.rules.specs.declared.flag.Flag.TheVariants.{Valid}
use Rattle.rules.specs.Flags.{is_valid}
use Rattle.rules.specs.Job.{Job}
use Rattle.rules.specs.Fold.{flag}
use Rattle.rules.specs.Commit.{job_of}
use Rattle.rules.specs.World.{World}
use Rattle.reasons.specs.declared.reason.Reason.{Reason}
use Rattle.reasons.specs.declared.reason.Reason.TheVariants.{NoFault}
use Rattle.reasons.specs.Reason.{flag_of, IsReason}
use Rattle.reasons_before_state.proofs.Inverted.{of_flag}

-- the flag that the job has is the reason's
pub flag_is : (channel : Configuration) (accepts : Accepts) (w : World) (items : List (Option Item)) (i : ℕ) (r : Reason) (j : Job) (f : Flag) → j ≡ job_of channel accepts w items → f ≡ flag j i
    → IsReason channel accepts w items i r → flag_of r ≡ f
flag_is channel accepts w items i r j f same is reason = sym (is ∙ ap (λ (k : Job). flag k i) same ∙ reason.flag_is)

valid_is : (f : Flag) → is_valid f ≡ true → f ≡ Valid
valid_is Valid e = refl
valid_is _ e = absurd cc

-- the reason of one that is valid
pub no_fault : (r : Reason) (f : Flag) → flag_of r ≡ f → is_valid f ≡ true → Some NoFault ≡ Some r
no_fault r f e valid = ap (λ (x : Reason). Some x) (sym (of_flag r Valid (e ∙ valid_is f valid)))
