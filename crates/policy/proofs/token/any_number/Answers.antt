use Rattle.std.specs.Char.{is_ascii_digit}
use Rattle.policy.proofs.Runs.{prefix_passes}
use Rattle.policy.proofs.token.any_number.Goals as goal

pub number_of-requires : goal.number_of-requires
number_of-requires c = rw (c.split_at.ensures.front, c.count_digits.ensures.digits) (prefix_passes is_ascii_digit c.args.text.now)
