use Rattle.std.proofs.Common.{◌≡◌, [], ◌∷◌, ◌++◌, refl, subst, ap, ◌∙◌, sym}
use Rattle.left_right.specs.Sides.{view}
use Rattle.rules.specs.World.{World}
use Rattle.rules.specs.declared.delta.Delta.{Delta}
use Rattle.rules.specs.Linked.{IsLinkedDelta}
use Rattle.world.specs.Applied.{AreBehind}
use Rattle.query.specs.Published.{Publishing, published_world}
use Rattle.query.specs.Counted.{counter_of}
use Rattle.query.specs.Rule.{base_of, IsShown}
use Rattle.query.proofs.Keeping.{shown_on, told_on}
use Rattle.query.proofs.publisher.Publisher.publish_ready.Goals as goal

pub invariant_of-self-2 : goal.invariant_of-self-2
invariant_of-self-2 g c =
    let was = c.self.inside in
    let delta = c.args.delta in
    let made = c.in-Ok-add.front in
    let kept = c.again.result in
    let added = c.in-Ok-add.ensures in
    let seat = view was.writer.desk.place in
    let made_is : made ≡ record { book = was.front.book; list = was.front.list ++ delta ∷ [] } = added.front in
    let kept_is = c.again.ensures in
    let linked : IsLinkedDelta (published_world (record { book = was.front.book; base = base_of seat; list = was.front.list; failed = was.failed })) delta =
    subst (λ (p : Publishing). IsLinkedDelta (published_world p) c.args.delta) (sym c.self.view_is) c.requires.linked in
    let here : c.published.result.now ≡ was.writer.desk.shown.value.world = c.published.ensures ∙ (ap published_world (sym c.self.view_is) ∙ sym c.self.invariant.2.world) in
    let are_behind : AreBehind was.writer.desk.shown.value.world delta c.in-Ok.made.definitions =
    subst (λ (w : World). AreBehind w delta c.in-Ok.made.definitions) here
    (subst (λ (d : Delta). AreBehind c.published.result.now d c.in-Ok.made.definitions) c.delta-2.ensures c.in-Ok.ensures.definitions) in
    let on = shown_on was.front made kept delta made_is kept_is (base_of seat) made was.writer.desk.shown.value c.add.new.writer.desk.shown.value c.self.invariant.2 linked refl c.in-Ok.made.definitions are_behind added.ok in (
      c.self.invariant.0 ∙ ap (λ f. counter_of f.book) (sym (kept_is ∙ made_is)),
      told_on was.front made kept delta made_is kept_is seat (view c.add.new.writer.desk.place) c.self.invariant.1 added.place,
      subst (λ (w : World). IsShown w kept c.add.new.writer.desk.shown.value) (ap base_of (sym added.place)) on,
      λ _. added.none,
    )
