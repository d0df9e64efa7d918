use Rattle.std.proofs.Common.{inl, inr}
use Rattle.std.proofs.lemmas.Result.{err_from_is_err_and}
use Rattle.command_files.proofs.Failing.{because}
use Rattle.command_files.proofs.inputs.Inputs.read.Goals as goal

pub returns-in_err-configuration-clause-err : goal.returns-in_err-configuration-clause-err
returns-in_err-configuration-clause-err g c =
    let p = err_from_is_err_and c.from_residual.result c.from_residual.ensures.1 in
    rw (p.1, p.2) (because _ _ (λ what fails. inl fails) c.in_err-configuration.field-0.0 c.in_err-configuration.ensures.err)

pub returns-in_err-blocks-clause-err : goal.returns-in_err-blocks-clause-err
returns-in_err-blocks-clause-err g c =
    let p = err_from_is_err_and c.from_residual-in_err-blocks.result c.from_residual-in_err-blocks.ensures.1 in
    rw (p.1, p.2) (because _ _ (λ what fails. inr (c.in_ok-configuration.configuration.channel, c.in_ok-configuration.configuration.keys, c.in_ok-configuration.ensures.ok, fails))
    c.in_err-blocks.field-0.0 c.in_err-blocks.ensures.err)
