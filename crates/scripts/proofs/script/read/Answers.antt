use Rattle.scripts.proofs.ScriptLimits.{read_within}
use Rattle.scripts.proofs.script.read.Goals as goal

pub returns-clause-within : goal.returns-clause-within
returns-clause-within c = read_within c.read_lines.result c.args.version c.args.keys.now c.args.text.now c.read_lines.ensures
