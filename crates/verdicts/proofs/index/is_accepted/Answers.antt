use Rattle.std.proofs.Common.{◌∙◌}
use Rattle.verdicts.proofs.Putting.{found}
use Rattle.verdicts.proofs.index.is_accepted.Goals as goal

pub returns : goal.returns
returns c =
    let is = c.signed_by.ensures in
    c.contains.ensures ∙ found c.args.accepted.now.keys c.signed_by.result c.args.identity.now c.args.message.now c.args.signature.now is.signature is.role is.org is.label is.message
