use Rattle.chain_laws.proofs.Blocks.{accepted_told}
use Rattle.chain_laws.proofs.laws.accepted_blocks_tell.Goals as goal

pub returns : goal.returns
returns c = accepted_told
