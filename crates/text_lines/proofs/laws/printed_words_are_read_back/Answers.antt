use Rattle.text_lines.proofs.ReadBack.{read_back}
use Rattle.text_lines.proofs.laws.printed_words_are_read_back.Goals as goal

pub returns : goal.returns
returns c = read_back
