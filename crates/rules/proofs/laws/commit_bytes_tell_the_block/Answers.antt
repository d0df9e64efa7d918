use Rattle.rules.proofs.CommitBytes.{commits_told}
use Rattle.rules.proofs.laws.commit_bytes_tell_the_block.Goals as goal

pub returns : goal.returns
returns c = commits_told
