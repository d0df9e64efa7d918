use Rattle.reasons.specs.Identity.{uses_id}
use Rattle.reasons.specs.Endorsement.{touches}
use Rattle.rules.specs.Commit.{job_of}
use Rattle.rules.specs.Candidate.{origin_of}
use Rattle.reasons.proofs.Below.{first_below-lt}
use Rattle.reasons.proofs.Conflicts.{stale_read_comes_after, phantom_comes_after}
use Rattle.reasons.proofs.Identity.{place_before}
use Rattle.reasons.proofs.laws.named_places_come_before.Goals as goal

pub returns-clause-of_a_use : goal.returns-clause-of_a_use
returns-clause-of_a_use c = λ channel accepts w txs i h given r. place_before (uses_id channel accepts (origin_of r.why.0).id) txs i h r.why.2.1

pub returns-clause-of_a_policy : goal.returns-clause-of_a_policy
returns-clause-of_a_policy c = λ channel accepts w txs i h namespace key r. first_below-lt (touches (job_of channel accepts w txs) (namespace, key)) i h r.why.2.1

pub returns-clause-of_a_writer : goal.returns-clause-of_a_writer
returns-clause-of_a_writer c = λ channel accepts w txs i h read r e. stale_read_comes_after (job_of channel accepts w txs) i r.why.0 read h r.why.2 e

pub returns-clause-of_a_phantom : goal.returns-clause-of_a_phantom
returns-clause-of_a_phantom c = λ channel accepts w txs i h x r e. phantom_comes_after (job_of channel accepts w txs) i r.why.0 x h r.why.2 e
