use Rattle.std.proofs.Common.{ℕ, ◌<◌, ◌^◌, List, length, ◌∙◌, sym, subst}
use Rattle.std.proofs.lemmas.Result.{err_from_is_err_and}
use Rattle.drafts.proofs.ItemLimits.{are_those, endorsed_by, too_long_already, signature_short}
use Rattle.drafts.proofs.item.encode_draft.Goals as goal

pub message_of-requires-clause-endorsements : goal.message_of-requires-clause-endorsements
message_of-requires-clause-endorsements c =
    are_those c.args.keys.now c.into_vec.result.items c.args.draft.now c.endorsers.result.now c.as_slice.result.now c.requires c.endorsers.ensures
    (c.as_slice.ensures.value ∙ c.in_ok-endorsements.ensures)

pub returns-in_err-message-clause-encodes : goal.returns-in_err-message-clause-encodes
returns-in_err-message-clause-encodes c =
    let p = err_from_is_err_and c.from_residual-in_err-message.result c.from_residual-in_err-message.ensures.1 in
    let keys = c.args.keys.now in
    let channel = c.args.channel.now in
    let draft = c.args.draft.now in
    let is =
    endorsed_by keys channel c.into_vec.result.items draft c.endorsers.result.now c.as_slice.result.now c.endorsers.ensures
    (c.into_vec.ensures ∙ c.in_ok-body.ensures.0) (c.as_slice.ensures.value ∙ c.in_ok-endorsements.ensures) in
    rw (p.1, p.2) (too_long_already c.in_err-message.field-0.0 keys channel draft c.as_slice.result.now is c.in_err-message.ensures)

pub whole_of-requires-clause-endorsements : goal.whole_of-requires-clause-endorsements
whole_of-requires-clause-endorsements c =
    are_those c.args.keys.now c.into_vec.result.items c.args.draft.now c.endorsers.result.now c.as_slice-3.result.now c.requires c.endorsers.ensures
    (c.as_slice-3.ensures.value ∙ c.in_ok-endorsements.ensures)

pub whole_of-requires-clause-signature : goal.whole_of-requires-clause-signature
whole_of-requires-clause-signature c =
    subst (λ (s : List ℕ). length s < 2 ^ 16) (sym c.in_ok-signature.ensures) (signature_short c.args.keys.now c.creator.result c.as_slice-2.result.now)
