use Rattle.reasons.proofs.Below.{among_touched}
use Rattle.reasons.proofs.laws.touched_keys_have_a_toucher.Goals as goal

pub returns : goal.returns
returns c = among_touched
