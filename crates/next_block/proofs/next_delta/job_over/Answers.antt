use Rattle.std.proofs.Common.{◌∙◌}
use Rattle.next_block.proofs.next_delta.job_over.Goals as goal

pub returns : goal.returns
returns c = c.of_found.ensures ∙ (λ i. record { number = c.height.ensures i; state = c.state.ensures i; definitions = c.definitions.ensures i; admin = c.admin.ensures i; candidates = c.args.key_writers })
