-- Candidates as the rules see them.
use Rattle.candidates.specs.declared.candidate.Candidate.{Candidate}
use Rattle.candidates.specs.declared.candidate.Candidate.TheVariants.{Flagged, Opened, Updates}
use Rattle.rules.specs.Candidate as candidate

abbrev pub seen : Candidate → candidate.Candidate
seen (Flagged flag) = candidate.flagged flag
seen (Opened open_tx) = candidate.opened open_tx.tx open_tx.signers
seen (Updates open_update) = candidate.updates open_update.update open_update.signers
