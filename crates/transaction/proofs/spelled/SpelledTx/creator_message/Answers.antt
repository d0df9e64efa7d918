use Rattle.std.proofs.Common.{subst}
use Rattle.transaction.specs.declared.transaction.Tx.{Tx}
use Rattle.transaction.specs.Grammar.{signed_bytes, SpellsSigned}
use Rattle.transaction.proofs.SignedPart.{signed_tx}
use Rattle.transaction.proofs.spelled.SpelledTx.creator_message.Goals as goal

pub returns : goal.returns
returns c =
    let tx = c.self.inside.tx in
    let s = c.self.invariant in
    subst (λ (t : Tx). SpellsSigned c.before_signature.result.now t) c.self.view_is (signed_tx tx c.self.inside.bytes.now c.before_signature.result.now s (c.before_signature.ensures (signed_bytes tx) s.fields))
