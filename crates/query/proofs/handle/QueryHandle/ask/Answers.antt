use Rattle.std.proofs.Common.{ap, sym, ◌∙◌}
use Rattle.left_right.specs.Sides.{view}
use Rattle.query.proofs.Keeping.{stays_told, goes_on}
use Rattle.query.proofs.handle.QueryHandle.ask.Goals as goal

pub ask-requires : goal.ask-requires
ask-requires g c = (c.self.invariant.told, c.self.invariant.is, c.self.invariant.same_book ∙ sym (ap (λ f. f.book) c.again-known.ensures))

pub invariant_of-self-2 : goal.invariant_of-self-2
invariant_of-self-2 g c =
    let was = c.self.inside in
    let took = c.in_ok-front.ensures in
    stays_told (view was.reader.place) (view c.ask.new.reader.place) was.known c.again-known.result c.in_ok-front.front c.self.invariant c.again-known.ensures took.place took.takes

pub returns-clause-goes_on : goal.returns-clause-goes_on
returns-clause-goes_on g c =
    let was = c.self.inside in
    let took = c.in_ok-front.ensures in
    rw (← c.self.view_is) (goes_on (view was.reader.place) (view c.ask.new.reader.place) was.known c.again-known.result c.in_ok-front.front c.self.invariant c.again-known.ensures took.place took.takes)
