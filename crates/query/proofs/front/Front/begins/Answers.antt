use Rattle.std.proofs.Common.{ap, subst, List}
use mathlib.Core.List.{IsPrefix}
use Rattle.rules.specs.declared.delta.Delta.{Delta}
use Rattle.query.proofs.Beginnings.{by_lengths}
use Rattle.query.proofs.front.Front.begins.Goals as goal

pub returns : goal.returns
returns c =
    let this = c.self.inside in
    let other = c.other.inside in
    let both = c.learn.new.self.log in
    let begins_both : IsPrefix this.seen.log both = subst (λ (ds : List Delta). IsPrefix ds both) (ap (λ s. s.log) c.again-both.ensures) c.learn.ensures.2 in
    rw (← c.self.view_is, ← c.other.view_is) (by_lengths this.count other.count this.seen.log other.seen.log both c.self.invariant c.other.invariant begins_both c.learn.ensures.3)
