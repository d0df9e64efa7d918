use Rattle.policy_eval.proofs.Spelled.{spelled_update_body}
use Rattle.policy_eval.proofs.signing.update_body.Goals as goal

pub bytes_of-requires : goal.bytes_of-requires
bytes_of-requires c = λ e. c.encode_update_body.ensures.too_large e _ (spelled_update_body c.args.update.now c.requires)
