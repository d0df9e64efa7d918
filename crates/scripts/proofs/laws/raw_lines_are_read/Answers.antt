use Rattle.scripts.proofs.RawLines.{raw_script}
use Rattle.scripts.proofs.laws.raw_lines_are_read.Goals as goal

pub returns : goal.returns
returns c = λ version keys txs bytes count short. raw_script version keys txs bytes count short
