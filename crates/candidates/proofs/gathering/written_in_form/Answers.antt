use Rattle.std.proofs.Common.{sym, ◌∙◌}
use Rattle.candidates.proofs.FormParts.{not_in_form}
use Rattle.candidates.proofs.gathering.written_in_form.Goals as goal

pub returns-then-not-branch : goal.returns-then-not-branch
returns-then-not-branch c = not_in_form c.args.tx.now (sym c.in_ok-are_lists_in_form.ensures ∙ c.if-not-branch.true)
