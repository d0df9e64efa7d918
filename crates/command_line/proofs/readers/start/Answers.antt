use Rattle.std.proofs.Common.{◌≡◌, ◌+◌, ◌∷◌, ◌∙◌, [], suc, ap, sym, arith, length, length-append}
use Rattle.std.proofs.lemmas.List.Elements.{All-push, All-rest, All-same}
use Rattle.std.specs.Vec.Iter.{into_iter_items}
use Rattle.command_line.proofs.readers.start.Goals as goal

pub loop-handle-preserved : goal.loop-handle-preserved
loop-handle-preserved g c = (
  All-same (λ reader. reader.promise.0.value.book ≡ c.args.committer.now.book) _ _ c.in_ok-push.ensures.items
      (All-push (λ reader. reader.promise.0.value.book ≡ c.args.committer.now.book) c.loop-handle.readers.items c.in_ok-start_one.field-0 c.loop-handle.invariant.0 c.in_ok-start_one.ensures),
  All-rest (λ handle. handle.book ≡ c.args.committer.now.book) c.in-Some.handle (into_iter_items c.next.new.self) (into_iter_items c.loop-handle.handle-iterator) c.in-Some.ensures.steps.0 c.loop-handle.invariant.1,
  let pushed : length c.push.new.self.items ≡ length c.loop-handle.readers.items + 1 = ap length c.in_ok-push.ensures.items ∙ length-append c.loop-handle.readers.items (c.in_ok-start_one.field-0 ∷ []) in
      let taken : length (into_iter_items c.loop-handle.handle-iterator) ≡ suc (length (into_iter_items c.next.new.self)) = ap length c.in-Some.ensures.steps.0 in
      let counted = c.loop-handle.invariant.2 in omega (arith, pushed, taken, counted),
)

pub returns-clause-count : goal.returns-clause-count
returns-clause-count g c =
    let left : length (into_iter_items c.loop-handle.handle-iterator) ≡ 0 = sym c.loop-handle.handle-iterator.rest.ok.0 ∙ c.in-None.ensures.steps.0 in
    let counted = c.loop-handle.invariant.2 in omega (arith, left, counted)
