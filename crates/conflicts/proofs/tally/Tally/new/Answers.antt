use Rattle.std.proofs.Common.{ℕ, List, ◌≤◌, subst, sym, arith}
use Rattle.conflicts.specs.Ranking.{Line}
use Rattle.conflicts.specs.Tally.{IsWithin}
use Rattle.conflicts.proofs.Counting.{at_zero}
use Rattle.conflicts.proofs.tally.Tally.new.Goals as goal

pub invariant_of-result : goal.invariant_of-result
invariant_of-result c = (
  subst (λ (lines : List Line). IsWithin 0 lines) (sym c.new.ensures.empty) (λ k. (omega arith, omega arith)),
  subst (λ (lines : List Line). IsWithin 0 lines) (sym c.new-2.ensures.empty) (λ k. (omega arith, omega arith)),
  λ i. subst (λ (n : ℕ). n ≤ 0) (sym (at_zero 26 i)) (omega arith),
)
