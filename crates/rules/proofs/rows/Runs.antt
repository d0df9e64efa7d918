-- Runs of the verdict machine.
use Rattle.std.proofs.Common.{◌≡◌, true, false, [], ◌∷◌, Some, None, inl, inr, refl, arith}
use Rattle.rules.specs.declared.early_flag.EarlyFlag.TheVariants as early
use Rattle.rules.specs.declared.flag.Flag.TheVariants.{Valid, BadPayload, DuplicateTxId}
use Rattle.rules.specs.declared.read_verdict.ReadVerdict.TheVariants.{Good}
use Rattle.rules.specs.declared.event.Event.TheVariants.{Endorse, Reads}
use Rattle.rules.specs.State.{with_changes}
use Rattle.rules.specs.Candidate.{flagged}
use Rattle.rules.specs.Job.{Job}
use Rattle.rules.specs.Assignment.{Assignment, touched_under, state_under, reads_under}
use Rattle.rules.specs.Machine.{Board, first_board, SureEndorsement, SureReads, WaitsForFlag, Run}
use Rattle.rules.proofs.rows.Shared.{k, at, read_at, absent, put, tx, reading, one, writes_k, block_over}
use Rattle.rules.proofs.rows.Looks.{looks}

-- the first one reads k absent and writes it, the second one reads what that left
abbrev written_and_read : Job
written_and_read = block_over [] (one (tx (absent k ∷ []) [] (put k ∷ []) []) ∷ one (reading (read_at k (at 1 0) ∷ [])) ∷ [])

-- ---- the first one's verdicts are sure

abbrev first_endorsed : Board
first_endorsed = record { endorsements = Some true ∷ None ∷ []; flags = None ∷ None ∷ [] }

abbrev first_flagged : Board
first_flagged = record { endorsements = Some true ∷ None ∷ []; flags = Some Valid ∷ None ∷ [] }

first_endorsement_is_sure : SureEndorsement written_and_read (first_board written_and_read) 0 true
unfolding touched_under
first_endorsement_is_sure called agrees = simp looks refl

first_reads_are_sure : SureReads written_and_read first_endorsed 0 Good
unfolding state_under
first_reads_are_sure called agrees = simp looks refl

-- reads before their endorsement change nothing
pub first_one_in_three_checks : Run written_and_read (first_board written_and_read) (Reads 1 ∷ Endorse 0 ∷ Reads 0 ∷ []) first_flagged
first_one_in_three_checks = (
  first_board written_and_read,
  inl (omega arith, refl),
  (
    first_endorsed,
    inl (omega arith, inl (true, first_endorsement_is_sure, refl)),
    (
      first_flagged,
      inl (omega arith, inl (Good, first_reads_are_sure, refl)),
      refl,
    ),
  ),
)

-- ---- the second one's reads wait for the first one's flag

abbrev second_endorsed : Board
second_endorsed = record { endorsements = None ∷ Some true ∷ []; flags = None ∷ None ∷ [] }

-- it writes no key, so no policy write is asked for
second_endorsement_is_sure : SureEndorsement written_and_read (first_board written_and_read) 1 true
unfolding touched_under
second_endorsement_is_sure called agrees = simp looks refl

second_waits : WaitsForFlag written_and_read second_endorsed 1
second_waits = (0, (omega arith, refl), refl)

pub second_one_waits : Run written_and_read (first_board written_and_read) (Endorse 1 ∷ Reads 1 ∷ []) second_endorsed
second_one_waits = (
  second_endorsed,
  inl (omega arith, inl (true, second_endorsement_is_sure, refl)),
  (
    second_endorsed,
    inl (omega arith, inr (second_waits, refl)),
    refl,
  ),
)

-- ---- and are sure once it is known

abbrev first_flagged_second_endorsed : Board
first_flagged_second_endorsed = record { endorsements = Some true ∷ Some true ∷ []; flags = Some Valid ∷ None ∷ [] }

abbrev both_flagged : Board
both_flagged = record { endorsements = Some true ∷ Some true ∷ []; flags = Some Valid ∷ Some Valid ∷ [] }

second_endorsement_stays_sure : SureEndorsement written_and_read first_flagged 1 true
unfolding touched_under
second_endorsement_stays_sure called agrees = simp looks refl

module _ (called : Assignment) where
  read_where_the_first_is_valid : called 0 ≡ true → reads_under written_and_read called 1 ≡ Good
  unfolding state_under with_changes
  read_where_the_first_is_valid first = simp (first, looks) refl

second_reads_are_sure : SureReads written_and_read first_flagged_second_endorsed 1 Good
second_reads_are_sure called agrees = read_where_the_first_is_valid called (agrees 0 true (omega arith) refl)

pub second_one_follows : Run written_and_read first_flagged (Endorse 1 ∷ Reads 1 ∷ []) both_flagged
second_one_follows = (
  first_flagged_second_endorsed,
  inl (omega arith, inl (true, second_endorsement_stays_sure, refl)),
  (
    both_flagged,
    inl (omega arith, inl (Good, second_reads_are_sure, refl)),
    refl,
  ),
)

-- ---- flagged candidates

-- are known before any check, their endorsements as no
pub flagged_ones_are_known_at_first : first_board (block_over [] (flagged early.BadPayload ∷ one writes_k ∷ flagged early.DuplicateTxId ∷ [])) ≡ record {
  endorsements = Some false ∷ None ∷ Some false ∷ [];
  flags = Some BadPayload ∷ None ∷ Some DuplicateTxId ∷ [];
}
flagged_ones_are_known_at_first = refl
