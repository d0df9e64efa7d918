use Rattle.std.proofs.Common.{inl, inr}
use Rattle.std.proofs.lemmas.Result.{err_from_is_err_and}
use Rattle.command_files.proofs.Failing.{because}
use Rattle.command_files.proofs.inputs.Configuration.read.Goals as goal

pub returns-in_err-channel-clause-err : goal.returns-in_err-channel-clause-err
returns-in_err-channel-clause-err g c =
    let p = err_from_is_err_and c.from_residual.result c.from_residual.ensures.1 in
    rw (p.1, p.2) (because _ _ (λ what fails. inl fails) c.in_err-channel.field-0.0 c.in_err-channel.ensures.err)

pub returns-in_err-keys-clause-err : goal.returns-in_err-keys-clause-err
returns-in_err-keys-clause-err g c =
    let p = err_from_is_err_and c.from_residual-in_err-keys.result c.from_residual-in_err-keys.ensures.1 in
    rw (p.1, p.2) (because _ _ (λ what fails. inr (c.in_ok-channel.channel, c.in_ok-channel.ensures.ok, fails)) c.in_err-keys.field-0.0 c.in_err-keys.ensures.err)
