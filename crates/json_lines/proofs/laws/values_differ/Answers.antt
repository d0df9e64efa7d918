use Rattle.json_lines.proofs.ReadBack.{differ}
use Rattle.json_lines.proofs.laws.values_differ.Goals as goal

pub returns : goal.returns
returns c = differ
