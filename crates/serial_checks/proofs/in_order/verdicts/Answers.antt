use Rattle.std.proofs.Common.{◌<◌, List, [], ◌∷◌, ◌++◌, length, sym, ap, ◌∙◌, arith}
use Rattle.std.proofs.lemmas.List.{length-set}
use Rattle.std.proofs.lemmas.List.FromFn.{map-range_with_len_more}
use Rattle.rules.specs.Fold.{flag}
use Rattle.key_chains.specs.declared.plain_board.Cells.{Cells}
use Rattle.serial_checks.proofs.Showing.{next_shown}
use Rattle.serial_checks.proofs.in_order.verdicts.Goals as goal

pub loop-i-preserved : goal.loop-i-preserved
loop-i-preserved c =
    let lt : c.loop-i.i < length c.loop-i.board = omega (arith, c.loop-i-test.true, c.loop-i.auto.i-end, c.len-count.ensures.value, c.loop-i.invariant.count) in
    record {
      count = ap (λ (cells : List Cells). length cells) c.set.ensures ∙ length-set _ _ _ ∙ ap (λ (cells : List Cells). length cells) c.cells-endorsed.ensures.board ∙ c.loop-i.invariant.count;
      shown = next_shown c.args.job.now c.loop-i.i c.loop-i.board c.cells-endorsed.new.board c.set.new.self _ _ c.loop-i.invariant.shown lt c.cells-endorsed.ensures.endorsed c.cells-endorsed.ensures.flag c.cells-endorsed.ensures.board c.set.ensures;
      flags = c.in_ok-push.ensures.items ∙ (λ i. c.loop-i.invariant.flags i ++ c.cells-endorsed.ensures.flag i ∷ []) ∙ sym (map-range_with_len_more (flag c.args.job.now) 0 c.loop-i.i c.loop-i.i (omega arith));
    }
