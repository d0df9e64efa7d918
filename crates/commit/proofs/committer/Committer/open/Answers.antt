use Rattle.std.proofs.Common.{[], ap, sym, ◌∙◌}
use Rattle.channel.specs.Configuration.{Configuration}
use Rattle.rules.specs.World.{empty_world}
use Rattle.commit.proofs.Publishing.{first_belongs}
use Rattle.commit.proofs.committer.Committer.open.Goals as goal

pub invariant_of-committer : goal.invariant_of-committer
invariant_of-committer g c =
    first_belongs c.into_parts-channel.result.0 c.into_parts-channel.result.1 c.in_ok-published.published
    (c.into_parts-channel.ensures.definitions ∙ ap (λ (ch : Configuration). ch.definitions) (sym c.into_parts-channel.ensures.configuration))
    c.in_ok-published.ensures.published.0 c.in_ok-published.ensures.published.1

pub returns-clause-handles : goal.returns-clause-handles
returns-clause-handles g c k d lt =
    c.in_ok-published.ensures.handles k d lt
    ∙ (λ i. record { book = c.in_ok-published.published.book; base = empty_world (c.into_parts-channel.ensures.definitions i); list = [] })
