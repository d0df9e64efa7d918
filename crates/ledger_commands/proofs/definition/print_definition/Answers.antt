use Rattle.std.proofs.Common.{inr}
use Rattle.std.proofs.lemmas.Result.{IfErr-weaker}
use Rattle.ledger_commands.proofs.Failing.{ends_before}
use Rattle.ledger_commands.proofs.definition.print_definition.Goals as goal

pub returns-clause-err : goal.returns-clause-err
returns-clause-err g c = IfErr-weaker c.answer.result _ _ (λ fault. ends_before _ _ (λ what fails. inr fails) _ _ fault) c.answer.ensures.err
