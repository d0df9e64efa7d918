-- The key that made a transaction invalid, and how.
use Rattle.std.specs.Prelude.{List, true, false, is_some, Option, Some, None}
use Rattle.std.specs.List.{filter_map}
use Rattle.reasons.specs.declared.endorsement_fault.EndorsementFault.{EndorsementFault}
use Rattle.reasons.specs.declared.endorsement_fault.EndorsementFault.TheVariants.{Touched, Unsatisfied}
use Rattle.reasons.specs.declared.policy_owner.PolicyOwner.TheVariants.{OfKey}
use Rattle.reasons.specs.declared.reason.Reason.{Reason}
use Rattle.reasons.specs.declared.reason.Reason.TheVariants.{NotEndorsed, ReadConflict, PhantomConflict}
use Rattle.conflicts.specs.declared.conflict.Conflict.{Conflict}
use Rattle.conflicts.specs.declared.kind.Kind.TheVariants.{StaleRead, Phantom, OwnPolicy, PolicyTouched}

-- A policy that was written in the block was written by a transaction of the block. If a key has no policy of its own,
-- its chaincode's policy is to blame, and no key.
abbrev pub endorsement_conflict : EndorsementFault → Option Conflict
endorsement_conflict (Touched namespace key place) = Some (record { key = (namespace, key); kind = PolicyTouched; in_block = true })
endorsement_conflict (Unsatisfied namespace key OfKey lack) = Some (record { key = (namespace, key); kind = OwnPolicy; in_block = false })
endorsement_conflict _ = None

-- A read or a range is spoilt in its own block if the reason names a writer, which is one of the same block.
abbrev pub conflict_of : Reason → Option Conflict
conflict_of (ReadConflict read) = Some (record { key = (read.namespace, read.key); kind = StaleRead; in_block = is_some read.writer })
conflict_of (PhantomConflict x) = Some (record { key = (x.range.namespace, x.key); kind = Phantom; in_block = is_some x.writer })
conflict_of (NotEndorsed fault) = endorsement_conflict fault
conflict_of _ = None

-- of transactions with these reasons, in order
abbrev pub conflicts_of : List Reason → List Conflict
conflicts_of reasons = filter_map conflict_of reasons
