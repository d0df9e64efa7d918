use Rattle.std.proofs.Common.{◌≡◌, ◌+◌, ◌∷◌, ◌++◌, true, map, drop, option_to_list, sym, ap, ◌∙◌}
use Rattle.std.specs.Ordering.{is_lt}
use Rattle.std.specs.Option.{option_copied}
use Rattle.values.specs.Order.{bytes_cmp}
use Rattle.candidates.specs.Rising.{are_rising}
use Rattle.candidates.proofs.Rising.{rise_at, rise_higher}
use Rattle.candidates.proofs.labels.are_rising.Goals as goal
use Rattle.candidates.proofs.labels.are_rising.Goals.{in-Some+else-not-is_before, in_default}

pub loop-item-preserved : goal.loop-item-preserved
loop-item-preserved g c =
    let f = g.T.Labelled.label in
    let x = c.item-item.result in
    let left = map f (drop (c.loop-item.item-index + 1) c.args.items.now) in
    let here = c.loop-item.invariant ∙ rise_at f (option_to_list (option_copied c.loop-item.last)) c.args.items.now c.loop-item.item-index x c.loop-item-test.true c.item-item.is in
    elim c.match-last.branch [
      | in-Some+else-not-is_before w ↦
          let higher : is_lt (bytes_cmp w.in-Some.last.now c.label-label.result.now) ≡ true = cc in
          here
          ∙ ap (λ o. are_rising (option_to_list (option_copied o) ++ f x ∷ left)) w.in-Some.is
          ∙ ap (λ l. are_rising (w.in-Some.last.now ∷ l ∷ left)) (sym c.label-label.ensures)
          ∙ rise_higher w.in-Some.last.now c.label-label.result.now left higher
      | in_default w ↦
          here
          ∙ ap (λ o. are_rising (option_to_list (option_copied o) ++ f x ∷ left)) w.in_default.is
          ∙ ap (λ l. are_rising (l ∷ left)) (sym c.label-label.ensures)
    ]
