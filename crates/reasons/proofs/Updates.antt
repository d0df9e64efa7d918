-- Why an update isn't valid: there is a fault, and one alone.
use Rattle.std.proofs.Common.{◌≡◌, Bool, true, false, cond, ◌&&◌, Option, Some, None, Result, Ok, Err, ◌⊎◌, inl, inr, refl, sym, ap, ◌∙◌}
use Rattle.std.specs.Prelude.{is_some, is_none, option_map}
use Rattle.std.specs.Option.{option_or}
use Rattle.std.specs.Result.{result_ok, result_err}
use Rattle.transaction.specs.declared.update.Update.{Update}
use Rattle.policy.specs.Tree.{Tree}
use Rattle.policy.specs.Fault.{Fault}
use Rattle.policy.specs.Meaning.{policy_or_fault}
use Rattle.policy_eval.specs.Accepts.{Accepts}
use Rattle.policy_eval.specs.UpdateSigners.{update_signers_of}
use Rattle.channel.specs.Configuration.{Configuration}
use Rattle.rules.specs.Candidate.{is_defined, may_update}
use Rattle.rules.proofs.Booleans.{both_true}
use Rattle.reasons.specs.declared.update_fault.UpdateFault.{UpdateFault}
use Rattle.reasons.specs.declared.update_fault.UpdateFault.TheVariants.{NotAlone, NoAdminPolicy, NoDefinition, NoPolicy, AdminUnsatisfied}
use Rattle.reasons.specs.declared.shortfall.Shortfall.{Shortfall}
use Rattle.reasons.specs.Form.{text_fault}
use Rattle.reasons.specs.Shortfall.{shortfall_of}
use Rattle.reasons.specs.Update.{unsigned_fault, IsUpdateFault}
use Rattle.reasons.proofs.Lists.{some_is, some_and_none, some_if}

-- no fault shows exactly where it may be asked for
pub none_if_may : (channel : Configuration) (alone : Bool) (u : Update) → is_none (unsigned_fault channel alone u) ≡ may_update channel alone u
none_if_may channel alone u = by alone (is_some channel.admin) (is_defined channel.definitions u.namespace) (policy_or_fault u.policy)
  where
    by : (a b d : Bool) (r : Result Tree Fault) → is_none (option_or (cond a None (Some NotAlone)) (option_or (cond b None (Some NoAdminPolicy)) (option_or (cond d None (Some (NoDefinition u.namespace))) (option_or (option_map (λ f. NoPolicy (text_fault f)) (result_err r)) None))))
        ≡ (a && b && d && is_some (result_ok r))
    by false b d r = refl
    by true false d r = refl
    by true true false r = refl
    by true true true (Ok t) = refl
    by true true true (Err f) = refl

-- a fault that shows is the fault
shown : (channel : Configuration) (accepts : Accepts) (alone : Bool) (u : Update) (f : UpdateFault) → unsigned_fault channel alone u ≡ Some f → ((x : Shortfall) → f ≡ AdminUnsatisfied x → ⊥) → IsUpdateFault channel accepts alone u f
shown channel accepts alone u NotAlone e apart = e
shown channel accepts alone u NoAdminPolicy e apart = e
shown channel accepts alone u (NoDefinition name) e apart = e
shown channel accepts alone u (NoPolicy fault) e apart = e
shown channel accepts alone u (AdminUnsatisfied x) e apart = absurd (apart x refl)

-- and never speaks of signers
unsigned : (channel : Configuration) (alone : Bool) (u : Update) (x : Shortfall) → unsigned_fault channel alone u ≡ Some (AdminUnsatisfied x) → ⊥
unsigned channel alone u x e = by alone (is_some channel.admin) (is_defined channel.definitions u.namespace) (policy_or_fault u.policy) e
  where
    by : (a b d : Bool) (r : Result Tree Fault) → option_or (cond a None (Some NotAlone)) (option_or (cond b None (Some NoAdminPolicy)) (option_or (cond d None (Some (NoDefinition u.namespace))) (option_or (option_map (λ f. NoPolicy (text_fault f)) (result_err r)) None))) ≡ Some (AdminUnsatisfied x) → ⊥
    by false b d r e = absurd cc
    by true false d r e = absurd cc
    by true true false r e = absurd cc
    by true true true (Ok t) e = absurd cc
    by true true true (Err f) e = absurd cc

pub unsigned_fault_if : (channel : Configuration) (accepts : Accepts) (alone : Bool) (u : Update) → may_update channel alone u ≡ false → (f : UpdateFault) × IsUpdateFault channel accepts alone u f
unsigned_fault_if channel accepts alone u e =
    let found = some_if (unsigned_fault channel alone u) (none_if_may channel alone u ∙ e) in
    (found.0, shown channel accepts alone u found.0 found.1 (λ x same. unsigned channel alone u x (found.1 ∙ ap (λ (f : UpdateFault). Some f) same)))

pub none_is : {X : Type 0} (o : Option X) → is_none o ≡ true → o ≡ None
none_is None e = refl
none_is (Some x) e = absurd cc

pub signed_fault_if : (channel : Configuration) (accepts : Accepts) (alone : Bool) (u : Update) → may_update channel alone u ≡ true → (f : UpdateFault) × IsUpdateFault channel accepts alone u f
signed_fault_if channel accepts alone u e = by channel.admin refl
  where
    by : (o : Option Tree) → channel.admin ≡ o → (f : UpdateFault) × IsUpdateFault channel accepts alone u f
    by None is = absurd (let wrong : false ≡ true = sym (ap (λ (x : Option Tree). is_some x) is) ∙ (both_true alone (is_some channel.admin) (both_true (alone && is_some channel.admin) (is_defined channel.definitions u.namespace) (both_true (alone && is_some channel.admin && is_defined channel.definitions u.namespace) (is_some (result_ok (policy_or_fault u.policy))) e).0).0).1 in cc)
    by (Some p) is = (AdminUnsatisfied (shortfall_of u.endorsements (update_signers_of accepts u) p), (none_is (unsigned_fault channel alone u) (none_if_may channel alone u ∙ e), is, refl))

one_shown : (f g : UpdateFault) (o : Option UpdateFault) → o ≡ Some f → o ≡ Some g → f ≡ g
one_shown f g o a b = some_is f g (sym a ∙ b)

-- it shows, or it is of the admin policy
abbrev Said : Configuration → Accepts → Bool → Update → UpdateFault → Type 0
Said channel accepts alone u f =
    (unsigned_fault channel alone u ≡ Some f)
    ⊎ ((x : Shortfall) × (f ≡ AdminUnsatisfied x) × (unsigned_fault channel alone u ≡ None) × (channel.admin ≡ Some x.policy) × (x ≡ shortfall_of u.endorsements (update_signers_of accepts u) x.policy))

said : (channel : Configuration) (accepts : Accepts) (alone : Bool) (u : Update) (f : UpdateFault) → IsUpdateFault channel accepts alone u f → Said channel accepts alone u f
said channel accepts alone u NotAlone a = inl a
said channel accepts alone u NoAdminPolicy a = inl a
said channel accepts alone u (NoDefinition name) a = inl a
said channel accepts alone u (NoPolicy fault) a = inl a
said channel accepts alone u (AdminUnsatisfied x) a = inr (x, refl, a.0, a.1, a.2)

pub one_update_fault : (channel : Configuration) (accepts : Accepts) (alone : Bool) (u : Update) (f g : UpdateFault) → IsUpdateFault channel accepts alone u f → IsUpdateFault channel accepts alone u g → f ≡ g
one_update_fault channel accepts alone u f g a b = by (said channel accepts alone u f a) (said channel accepts alone u g b)
  where
    by : Said channel accepts alone u f → Said channel accepts alone u g → f ≡ g
    by (inl a) (inl b) = one_shown f g (unsigned_fault channel alone u) a b
    by (inl a) (inr b) = absurd (some_and_none f (sym a ∙ b.2))
    by (inr a) (inl b) = absurd (some_and_none g (sym b ∙ a.2))
    by (inr a) (inr b) =
        let policy : a.0.policy ≡ b.0.policy = some_is a.0.policy b.0.policy (sym a.3 ∙ b.3) in
        let lacks : a.0 ≡ b.0 = a.4 ∙ ap (shortfall_of u.endorsements (update_signers_of accepts u)) policy ∙ sym b.4 in
        a.1 ∙ ap AdminUnsatisfied lacks ∙ sym b.1
