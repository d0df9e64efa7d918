-- What holds of these counts, in the words of a report.
use Rattle.std.specs.Prelude.{ℕ, ◌+◌, List, [], ◌∷◌, Bool, if◌then◌else◌}
use Rattle.std.specs.List.{sum_by}
use Rattle.rules.specs.declared.flag.Flag.{Flag}
use Rattle.rules.specs.declared.flag.Flag.TheVariants.{Valid, BadPayload, BadCreatorSignature, InvalidConfigTransaction, BadProposalTxId, DuplicateTxId, EndorsementPolicyFailure, MvccReadConflict, PhantomReadConflict, TargetChainNotFound, BadRwset, InvalidChaincode}
use Rattle.rules.specs.State.{StateKey}
use Rattle.conflicts.specs.declared.key_counts.KeyCounts.{KeyCounts}
use Rattle.conflicts.specs.KeyCounts.{total_of}
use Rattle.conflicts.specs.Ranking.{Line}

abbrev pub all_flags : List Flag
all_flags = Valid ∷ BadPayload ∷ BadCreatorSignature ∷ InvalidConfigTransaction ∷ BadProposalTxId ∷ DuplicateTxId ∷ EndorsementPolicyFailure ∷ MvccReadConflict ∷ PhantomReadConflict ∷ TargetChainNotFound ∷ BadRwset ∷ InvalidChaincode ∷ []

-- the counts of two parts of a chain together
abbrev pub together : KeyCounts → KeyCounts → KeyCounts
together a b = record {
  stale_reads = a.stale_reads + b.stale_reads;
  phantoms = a.phantoms + b.phantoms;
  own_policy = a.own_policy + b.own_policy;
  policy_touched = a.policy_touched + b.policy_touched;
  in_block = a.in_block + b.in_block;
}

-- the sum of the lines whose keys pass a test
abbrev pub total_where : (StateKey → Bool) → List Line → ℕ
total_where test lines = sum_by (λ l. if test l.0 then total_of l.1 else 0) lines
