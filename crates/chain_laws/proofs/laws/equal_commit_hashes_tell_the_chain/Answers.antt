use Rattle.chain_laws.proofs.Commits.{chain_commits, blocks_told, rows_told}
use Rattle.chain_laws.proofs.laws.equal_commit_hashes_tell_the_chain.Goals as goal

pub returns-clause-commits : goal.returns-clause-commits
returns-clause-commits c = chain_commits

pub returns-clause-blocks : goal.returns-clause-blocks
returns-clause-blocks c = blocks_told

pub returns-clause-rows : goal.returns-clause-rows
returns-clause-rows c = rows_told
