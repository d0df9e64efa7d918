use Rattle.policy_eval.proofs.Spelled.{spelled_body}
use Rattle.policy_eval.proofs.signing.body.Goals as goal

pub bytes_of-requires : goal.bytes_of-requires
bytes_of-requires c = λ e. c.encode_body.ensures.too_large e _ (spelled_body c.args.tx.now c.requires)
