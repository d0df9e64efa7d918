use Rattle.reasons.proofs.Conflicts.{stale_read_is_left, stale_read_is_old, phantom_is_left, phantom_is_old}
use Rattle.rules.specs.Commit.{job_of}
use Rattle.reasons.proofs.laws.named_writers_left_what_is_there.Goals as goal

pub returns-clause-written : goal.returns-clause-written
returns-clause-written c = λ channel accepts w txs i h read r e. stale_read_is_left (job_of channel accepts w txs) i r.why.0 read h r.why.2 e

pub returns-clause-unwritten : goal.returns-clause-unwritten
returns-clause-unwritten c = λ channel accepts w txs i read r e. stale_read_is_old (job_of channel accepts w txs) i r.why.0 read r.why.2 e

pub returns-clause-phantom : goal.returns-clause-phantom
returns-clause-phantom c = λ channel accepts w txs i h x r e. phantom_is_left (job_of channel accepts w txs) i r.why.0 x h r.why.2 e

pub returns-clause-old_phantom : goal.returns-clause-old_phantom
returns-clause-old_phantom c = λ channel accepts w txs i x r e. phantom_is_old (job_of channel accepts w txs) i r.why.0 x r.why.2 e
