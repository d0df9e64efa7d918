use Rattle.std.proofs.Common.{◌++◌, List, sym, ap, ◌∙◌}
use Rattle.transaction.specs.declared.transaction.Endorsement.{Endorsement}
use Rattle.transaction.specs.declared.transaction.Tx.{Tx}
use Rattle.transaction.specs.Grammar.{listed, endorsement_bytes, body_bytes}
use Rattle.transaction.proofs.SignedPart.{ends_in}
use Rattle.transaction.proofs.spelled.SpelledTx.body.Goals as goal

pub before_endorsements-requires-clause-ending : goal.before_endorsements-requires-clause-ending
before_endorsements-requires-clause-ending c =
    let tx = c.args.self.now in
    ends_in (body_bytes tx) c.creator_message.result.now tx.endorsements c.as_slice.result.now c.creator_message.ensures.fields (c.as_slice.ensures ∙ ap (λ (t : Tx). t.endorsements) c.self.view_is)

pub returns : goal.returns
returns c =
    let tx = c.args.self.now in
    let same = c.as_slice.ensures ∙ ap (λ (t : Tx). t.endorsements) c.self.view_is in
    c.before_endorsements.ensures (body_bytes tx) (c.creator_message.ensures.fields ∙ ap (λ (es : List Endorsement). body_bytes tx ++ listed 1 endorsement_bytes es) (sym same))
