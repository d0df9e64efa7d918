use Rattle.std.proofs.Common.{◌<◌, List, All, sym, ap, subst, ◌∙◌}
use Rattle.rules.specs.Flags.{is_valid}
use Rattle.rules.specs.Fold.{flag}
use Rattle.key_chains.specs.declared.operation.Operation.{Operation}
use Rattle.reasons_from_state.specs.Writers.{last_setter}
use Rattle.reasons_from_state.proofs.Setting.{earlier_operations, set_last}
use Rattle.reasons_from_state.proofs.writers.last_writer.Goals as goal

pub last_setter-requires-clause-earlier : goal.last_setter-requires-clause-earlier
last_setter-requires-clause-earlier c =
    subst (λ (l : List Operation). All (λ o. o.tx < c.args.i) l) (sym c.operations_before.ensures) (earlier_operations c.args.job.now c.args.key.now c.args.i)

pub returns : goal.returns
returns c =
    c.last_setter.ensures ∙ ap (last_setter (λ h. is_valid (flag c.args.job.now h)) c.args.is_there) c.operations_before.ensures
    ∙ set_last c.args.job.now c.args.key.now c.args.i c.args.is_there c.requires.there
