use Rattle.std.proofs.Common.{◌≡◌, ◌∙◌, ap, arith, length-append}
use Rattle.std.proofs.lemmas.List.Elements.{All-push}
use Rattle.left_right.specs.declared.part.Part.{Part}
use Rattle.query.specs.Published.{Watch}
use Rattle.query.specs.declared.shown.Shown.{Shown}
use Rattle.query.proofs.opening.hand_out.Goals as goal

-- a handle that was told of what is shown
abbrev watch_of : Part Shown → Watch
watch_of p = record { book = p.value.front.book; base = p.value.world; list = p.value.front.list }

pub loop-preserved : goal.loop-preserved
loop-preserved g c =
    let so_far = c.loop.invariant in
    let same = c.handle.ensures.same in
    let handle = c.in-Ok.handle in
    let told : handle ≡ watch_of c.args.writer.desk.shown = c.in-Ok.ensures.handle ∙ ap watch_of so_far.shown in record {
      place = same.0 ∙ so_far.place;
      shown = same.1 ∙ so_far.shown;
      log = same.2 ∙ so_far.log;
      behind = same.3 ∙ so_far.behind;
      count = rw (c.push_reserved.ensures.items, length-append) (omega (arith, so_far.count));
      room = omega (arith, so_far.room, c.push_reserved.ensures.capacity);
      handles = rw c.push_reserved.ensures.items (All-push (λ h. h ≡ watch_of c.args.writer.desk.shown) c.loop.handles.items handle so_far.handles told);
    }
