-- A pre-checked item in its block, if its id is used, or new. A step to Tentative.
use Rattle.std.specs.Prelude.{Bool, if◌then◌else◌}
use Rattle.rules.specs.declared.early_flag.EarlyFlag.TheVariants.{DuplicateTxId, InvalidConfigTransaction}
use Rattle.candidates.specs.declared.candidate.Candidate.{Candidate}
use Rattle.candidates.specs.declared.candidate.Candidate.TheVariants.{Flagged, Opened, Updates}
use Rattle.intake.specs.declared.taking.Taken.{Taken}

-- next to other items of its block
abbrev pub beside : Candidate → Candidate
beside (Flagged flag) = Flagged flag
beside (Opened open_tx) = Opened open_tx
beside (Updates update) = Flagged InvalidConfigTransaction

abbrev pub placed : Bool → Taken → Bool → Candidate
placed alone t used = if used then Flagged DuplicateTxId else (if alone then t.candidate else beside t.candidate)
