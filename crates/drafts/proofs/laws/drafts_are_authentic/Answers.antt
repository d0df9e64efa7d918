use Rattle.drafts.proofs.Signatures.{drafts_authentic}
use Rattle.drafts.proofs.laws.drafts_are_authentic.Goals as goal

pub returns : goal.returns
returns c = drafts_authentic
