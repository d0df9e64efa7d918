use Rattle.policy.proofs.Ascii.{name_is_text}
use Rattle.policy.proofs.text.put_name.Goals as goal

pub unreachable-requires : goal.unreachable-requires
unreachable-requires c = absurd (c.in-Err.ensures.cases.0 (name_is_text c.as_slice.result.now c.as_slice.ensures.name))
