use Rattle.std.proofs.Common.{rules}
use Rattle.candidates.proofs.Joined.{joined_is}
use Rattle.candidates.proofs.gathering.joined.Goals as goal

pub returns : goal.returns
returns c = joined_is _ (λ s x k b t x' k' call. search rules) _ _ _ c.dedup_by.ensures.filtered
