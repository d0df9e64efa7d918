use Rattle.std.proofs.Common.{List, length, ap, ◌∙◌}
use Rattle.std.proofs.lemmas.List.{length-replicate, length-set}
use Rattle.key_chains.specs.declared.plain_board.Cells.{Cells}
use Rattle.block_tests.proofs.asking.board_of.Goals as goal

pub loop-i-init : goal.loop-i-init
loop-i-init c = ap (λ (cells : List Cells). length cells) c.in_ok-board.ensures ∙ length-replicate _ _ ∙ c.len-count.ensures.value

pub loop-i-preserved : goal.loop-i-preserved
loop-i-preserved c = ap (λ (cells : List Cells). length cells) c.set.ensures ∙ length-set _ _ _ ∙ c.loop-i.invariant
