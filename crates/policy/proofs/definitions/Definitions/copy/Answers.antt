use Rattle.std.proofs.Common.{sym, ◌∙◌, ap}
use Rattle.policy.proofs.Names.{with_entries, with_all, with_last}
use Rattle.policy.proofs.definitions.Definitions.copy.Goals as goal

pub loop-name-init : goal.loop-name-init
loop-name-init c = rw (c.into_iter-name-iterator.ensures.into_iter_gives, c.rev-name-items.ensures.source, c.iter.ensures.rest, c.new-copied.ensures) (with_all c.self.inside.policies.entries ∙ c.self.view_is)

pub loop-name-preserved : goal.loop-name-preserved
loop-name-preserved c =
    let set = rw (c.as_slice.ensures.value, c.in_ok-copy.ensures) at c.in_ok-put.ensures.ok in
    rw set (sym (with_last c.next.new.self.iter c.in-Some.name.now c.in-Some.policy.now c.loop-name.copied) ∙ ap (λ es. with_entries es c.loop-name.copied) (sym c.in-Some.ensures.steps) ∙ c.loop-name.invariant)
