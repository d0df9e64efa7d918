use Rattle.std.proofs.Common.{◌≡◌, ◌+◌, ◌∷◌, true, drop, ap, ◌∙◌}
use Rattle.std.specs.Ordering.{is_lt}
use Rattle.std.specs.Option.{option_copied}
use Rattle.values.specs.Order.{bytes_cmp}
use Rattle.plain.proofs.InForm.{rise_after, at_place, one_higher}
use Rattle.plain.proofs.sets.are_rising.Goals as goal
use Rattle.plain.proofs.sets.are_rising.Goals.{in-Some+else-not-is_before, in_default}

pub loop-found-preserved : goal.loop-found-preserved
loop-found-preserved c =
    let left = c.found-item.result ∷ drop (c.loop-found.found-index + 1) c.args.results.now in
    let here = c.loop-found.invariant ∙ at_place (option_copied c.loop-found.last) c.args.results.now c.loop-found.found-index c.found-item.result c.loop-found-test.true c.found-item.is in
    elim c.match-last.branch [
      | in-Some+else-not-is_before w ↦
          let higher : is_lt (bytes_cmp w.in-Some.last.now c.found-item.result.key) ≡ true = cc in
          here ∙ ap (λ o. rise_after (option_copied o) left) w.in-Some.is ∙ one_higher w.in-Some.last.now c.found-item.result (drop (c.loop-found.found-index + 1) c.args.results.now) higher
      | in_default w ↦ here ∙ ap (λ o. rise_after (option_copied o) left) w.in_default.is
    ]
