use Rattle.std.proofs.Common.{sym, ◌∙◌}
use Rattle.next_block.proofs.Marking.{unmarked-stay}
use Rattle.next_block.proofs.tentative.with_marks.Goals as goal

pub returns-then-not-is_any : goal.returns-then-not-is_any
returns-then-not-is_any c = sym (unmarked-stay c.args.key_writers c.args.used.now c.requires.count (sym c.is_any.ensures ∙ c.if-not-is_any.true))
