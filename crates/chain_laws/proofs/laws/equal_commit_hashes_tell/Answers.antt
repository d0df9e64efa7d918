use Rattle.chain_laws.proofs.Blocks.{answered_told}
use Rattle.chain_laws.proofs.laws.equal_commit_hashes_tell.Goals as goal

pub returns : goal.returns
returns c = answered_told
