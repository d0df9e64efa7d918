-- Why an update isn't valid: the first fault that shows without its signers, or, where none does, the admin policy.
use Rattle.std.specs.Prelude.{◌≡◌, [], ◌∷◌, Bool, is_some, if◌then◌else◌, Option, Some, None, option_map}
use Rattle.std.specs.Result.{result_err}
use Rattle.transaction.specs.declared.update.Update.{Update}
use Rattle.policy.specs.Meaning.{policy_or_fault}
use Rattle.policy_eval.specs.Accepts.{Accepts}
use Rattle.policy_eval.specs.UpdateSigners.{update_signers_of}
use Rattle.channel.specs.Configuration.{Configuration}
use Rattle.rules.specs.Candidate.{is_defined}
use Rattle.reasons.specs.declared.update_fault.UpdateFault.{UpdateFault}
use Rattle.reasons.specs.declared.update_fault.UpdateFault.TheVariants.{NotAlone, NoAdminPolicy, NoDefinition, NoPolicy, AdminUnsatisfied}
use Rattle.reasons.specs.First.{first_there}
use Rattle.reasons.specs.Form.{text_fault}
use Rattle.reasons.specs.Shortfall.{shortfall_of}

-- the first fault that shows without its signers
abbrev pub unsigned_fault : Configuration → Bool → Update → Option UpdateFault
unsigned_fault channel alone u = first_there (
    (if alone then None else Some NotAlone)
    ∷ (if is_some channel.admin then None else Some NoAdminPolicy)
    ∷ (if is_defined channel.definitions u.namespace then None else Some (NoDefinition u.namespace))
    ∷ option_map (λ f. NoPolicy (text_fault f)) (result_err (policy_or_fault u.policy))
    ∷ [])

-- the channel is the one with the world's definitions
abbrev pub IsUpdateFault : Configuration → Accepts → Bool → Update → UpdateFault → Type 0
IsUpdateFault channel accepts alone u (AdminUnsatisfied x) =
    (unsigned_fault channel alone u ≡ None) × (channel.admin ≡ Some x.policy) × (x ≡ shortfall_of u.endorsements (update_signers_of accepts u) x.policy)
IsUpdateFault channel accepts alone u NotAlone = unsigned_fault channel alone u ≡ Some NotAlone
IsUpdateFault channel accepts alone u NoAdminPolicy = unsigned_fault channel alone u ≡ Some NoAdminPolicy
IsUpdateFault channel accepts alone u (NoDefinition chaincode) = unsigned_fault channel alone u ≡ Some (NoDefinition chaincode)
IsUpdateFault channel accepts alone u (NoPolicy fault) = unsigned_fault channel alone u ≡ Some (NoPolicy fault)
