use Rattle.json_lines.proofs.ReadBack.{string_read, value_read}
use Rattle.json_lines.proofs.laws.values_are_read_back.Goals as goal

pub returns-clause-strings : goal.returns-clause-strings
returns-clause-strings c = string_read

pub returns-clause-values : goal.returns-clause-values
returns-clause-values c = value_read
