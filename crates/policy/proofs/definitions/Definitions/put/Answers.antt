use Rattle.std.proofs.Common.{sym, ◌∙◌, ap, subst, IsSome, rules}
use Rattle.std.specs.FinMap as map
use Rattle.policy.proofs.Names.{one_set, no_policy, policies_of}
use Rattle.policy.proofs.definitions.Definitions.put.Goals as goal

pub returns-in-Some-clause-ok : goal.returns-in-Some-clause-ok
returns-in-Some-clause-ok c =
    let bs = c.args.name.now in
    one_set c.self.inside.policies (c.get_mut.follows.lender c.args.policy) bs c.args.policy ((c.get_mut.follows.holds c.args.policy).3 (search rules))
    ∙ ap (λ m. map.insert m bs c.args.policy) c.self.view_is

pub returns-clause-ok : goal.returns-clause-ok
returns-clause-ok c =
    let bs = c.in_ok-name.name.items in
    let old = c.get_mut.follows.lender-at-none in
    one_set old c.insert.new.self bs c.args.policy c.in_ok-insert.ensures.updates
    ∙ ap (λ m. map.insert (policies_of m) bs c.args.policy) c.get_mut.follows.holds-at-none
    ∙ ap (λ m. map.insert m bs c.args.policy) c.self.view_is
    ∙ ap (λ b. map.insert c.args.self.now b c.args.policy) c.in_ok-name.ensures.items

pub returns-in_err-name-clause-replaced : goal.returns-in_err-name-clause-replaced
returns-in_err-name-clause-replaced c = λ h.
    absurd (no_policy c.self.inside.policies c.args.name.now c.in_default.ensures.value (subst (λ m. IsSome (map.get m c.args.name.now)) (sym c.self.view_is) h))

pub returns-in_err-insert-clause-replaced : goal.returns-in_err-insert-clause-replaced
returns-in_err-insert-clause-replaced c = λ h.
    absurd (no_policy c.self.inside.policies c.args.name.now c.in_default.ensures.value (subst (λ m. IsSome (map.get m c.args.name.now)) (sym c.self.view_is) h))
