use Rattle.rules.specs.Assignment.{endorsement_under, reads_under, version_under}
use Rattle.rules.proofs.Certainty.{as_known, agrees-as_known}
use Rattle.rules.proofs.Locality.{sure_endorsement_if_known, sure_reads_if_known, sure_version_if_known}
use Rattle.rules.proofs.laws.known_dependencies_make_sure.Goals as goal

pub returns-clause-endorsement : goal.returns-clause-endorsement
returns-clause-endorsement c = λ j known i all. (endorsement_under j (as_known known) i, sure_endorsement_if_known known i j (as_known known) (agrees-as_known known i) all)

pub returns-clause-reads : goal.returns-clause-reads
returns-clause-reads c = λ j known i all. (reads_under j (as_known known) i, sure_reads_if_known known i j (as_known known) (agrees-as_known known i) all)

pub returns-clause-version : goal.returns-clause-version
returns-clause-version c = λ j k known i all. (version_under j k (as_known known) i, sure_version_if_known known i j k (as_known known) (agrees-as_known known i) all)
