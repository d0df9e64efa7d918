use Rattle.std.proofs.Common.{[], ap, ◌∙◌}
use Rattle.rules.specs.World.{World, empty_world}
use Rattle.query.specs.Published.{Watch}
use Rattle.commit.proofs.published.Published.open.Goals as goal

pub returns-clause-published : goal.returns-clause-published
returns-clause-published g c =
    let opened = c.in_ok-publisher.ensures.publisher in
    (opened.0 ∙ c.new-first.ensures ∙ ap empty_world c.in-Ok.ensures, opened.1, opened.2)

pub returns-clause-handles : goal.returns-clause-handles
returns-clause-handles g c k d lt =
    let opened : World → Watch = λ w. record { book = c.in_ok-publisher.publisher.book; base = w; list = [] } in
    c.in_ok-publisher.ensures.handles k d lt ∙ ap opened (c.new-first.ensures ∙ ap empty_world c.in-Ok.ensures)
