-- What the admin policy tells of an open update is the reason that there is.
use Rattle.std.proofs.Common.{◌≡◌, ℕ, ◌==◌, Bool, true, false, ◌&&◌, is_some, List, length, Option, Some, None, sym, ap, subst, ◌∙◌}
use Rattle.transaction.specs.declared.identity.Identity.{Identity}
use Rattle.transaction.specs.declared.update.Update.{Update}
use Rattle.policy.specs.Tree.{Tree}
use Rattle.policy.specs.Meaning.{policy_of}
use Rattle.channel.specs.Configuration.{Configuration}
use Rattle.rules.specs.Flags.{is_valid}
use Rattle.rules.specs.Candidate.{updates, is_defined, may_update}
use Rattle.rules.specs.Job.{Job, candidate_at, reads_by, flag_by}
use Rattle.rules.specs.Fold.{running, endorsed, flag}
use Rattle.rules.specs.Commit.{channel_in}
use Rattle.rules.proofs.Booleans.{both_true}
use Rattle.reasons.specs.declared.reason.Reason.TheVariants.{NoFault, InvalidUpdate}
use Rattle.reasons.specs.declared.update_fault.UpdateFault.TheVariants.{AdminUnsatisfied}
use Rattle.reasons.specs.Shortfall.{shortfall_of}
use Rattle.reasons.specs.Update.{unsigned_fault}
use Rattle.reasons.proofs.Updates.{none_is, none_if_may}
use Rattle.reasons_from_state.specs.Told.{IsTheReason}
use Rattle.reasons_from_state.proofs.Bare.{no_fault}
use Rattle.reasons_from_state.proofs.Places.{update_at}
use Rattle.reasons_from_state.proofs.StateTelling.{IsOne, same_reason}

has_admin : (channel : Configuration) (alone : Bool) (u : Update) → may_update channel alone u ≡ true → is_some channel.admin ≡ true
has_admin channel alone u may =
    let spelled = both_true (alone && is_some channel.admin && is_defined channel.definitions u.namespace) (is_some (policy_of u.policy)) may in
    let named = both_true (alone && is_some channel.admin) (is_defined channel.definitions u.namespace) spelled.0 in
    (both_true alone (is_some channel.admin) named.0).1

module _ (j : Job) (i : ℕ) (u : Update) (ss : List Identity) (opens : candidate_at j i ≡ updates u ss) where
  by_endorsement : (b : Bool) → endorsed j i ≡ b → flag j i ≡ flag_by (updates u ss) b (reads_by (running j i).state (updates u ss))
  by_endorsement b is = λ t. flag_by (opens t) (is t) (reads_by (running j i).state (opens t))

  pub tells_made : endorsed j i ≡ true → IsTheReason j i (flag j i) (Some NoFault)
  tells_made passes channel accepts w items r same f reason = no_fault r (flag j i) f (ap is_valid (by_endorsement true passes))

  pub tells_refused : IsOne → endorsed j i ≡ false → (policy : Tree) → j.admin ≡ Some policy → IsTheReason j i (flag j i) (Some (InvalidUpdate (AdminUnsatisfied (shortfall_of u.endorsements ss policy))))
  tells_refused one fails policy admin channel accepts w items r same f reason =
      let at = update_at channel accepts w items i u ss (subst (λ (k : Job). candidate_at k i ≡ updates u ss) same opens) in
      let none : unsigned_fault (channel_in channel w) (length items == 1) u ≡ None = none_is (unsigned_fault (channel_in channel w) (length items == 1) u) (none_if_may (channel_in channel w) (length items == 1) u ∙ at.2) in
      let own : channel.admin ≡ Some policy = sym (ap (λ (k : Job). k.admin) same) ∙ admin in
      same_reason channel accepts w items i r reason one (InvalidUpdate (AdminUnsatisfied (shortfall_of u.endorsements ss policy))) (f ∙ by_endorsement false fails) (u, at.0, (none, own, ap (λ (is : List Identity). shortfall_of u.endorsements is policy) at.1))

  pub tells_no_admin : j.admin ≡ None → IsTheReason j i (flag j i) None
  tells_no_admin none channel accepts w items r same f reason =
      let at = update_at channel accepts w items i u ss (subst (λ (k : Job). candidate_at k i ≡ updates u ss) same opens) in
      let own : channel.admin ≡ None = sym (ap (λ (k : Job). k.admin) same) ∙ none in
      let wrong : false ≡ true = sym (ap (λ (o : Option Tree). is_some o) own) ∙ has_admin (channel_in channel w) (length items == 1) u at.2 in
      absurd cc
