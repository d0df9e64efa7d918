use Rattle.rules.proofs.Numbers.{flag_back, number_back}
use Rattle.rules.proofs.laws.numbers_tell_flags.Goals as goal

pub returns : goal.returns
returns c = record { back = flag_back; only = number_back }
