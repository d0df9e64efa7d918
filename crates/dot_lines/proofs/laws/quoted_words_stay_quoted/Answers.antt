use Rattle.dot_lines.proofs.Quoting.{are_escaped, stays_quoted}
use Rattle.dot_lines.proofs.laws.quoted_words_stay_quoted.Goals as goal

pub returns : goal.returns
returns c = record { words = are_escaped; quoted = stays_quoted }
