use Rattle.std.proofs.Common.{cond, ap, sym, ◌∙◌}
use Rattle.std.specs.Prelude.{◌==◌}
use Rattle.std.specs.Int.{bit_at}
use Rattle.task_desk.proofs.OneBit.{bit_set, bit_cleared}
use Rattle.task_desk.proofs.bit_set.with_bit.Goals as goal

pub returns-then-member : goal.returns-then-member
returns-then-member c = λ k lt. bit_set c.args.word c.args.bit k c.requires lt ∙ ap (λ m. cond (k == c.args.bit) m (bit_at c.args.word k == 1)) (sym c.if-member.true)

pub returns-else-member : goal.returns-else-member
returns-else-member c = λ k lt. bit_cleared c.args.word c.args.bit k c.requires lt ∙ ap (λ m. cond (k == c.args.bit) m (bit_at c.args.word k == 1)) (sym c.if-member.false)
