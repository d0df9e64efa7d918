use Rattle.cli_values.proofs.ReadBack.{value_read_back}
use Rattle.cli_values.proofs.laws.printed_values_are_read_back.Goals as goal

pub returns : goal.returns
returns c = value_read_back c.printed_words_are_read_back.ensures
