-- What a reason says in numbers.
use Rattle.std.specs.Prelude.{ℕ, true, false, is_some, unwrap_or, Option, Some, None}
use Rattle.transaction.specs.declared.transaction.Version.{Version}
use Rattle.verdicts.specs.declared.verdict.Piece.{Piece}
use Rattle.rules.specs.Flags.{number_of}
use Rattle.reasons.specs.declared.endorsement_fault.EndorsementFault.{EndorsementFault}
use Rattle.reasons.specs.declared.endorsement_fault.EndorsementFault.TheVariants.{Touched, Unsatisfied, ChaincodeUnsatisfied}
use Rattle.reasons.specs.declared.form_fault.FormFault.{FormFault}
use Rattle.reasons.specs.declared.form_fault.FormFault.TheVariants.{NamespaceRepeats, KeyRepeats, ResultFalls, ResultLeaves, UnreadablePolicy}
use Rattle.reasons.specs.declared.id_use.IdUse.{IdUse}
use Rattle.reasons.specs.declared.id_use.IdUse.TheVariants.{Earlier, Here}
use Rattle.reasons.specs.declared.key_list.KeyList.{KeyList}
use Rattle.reasons.specs.declared.key_list.KeyList.TheVariants.{Reads, Writes, PolicyWrites}
use Rattle.reasons.specs.declared.phantom_key.PhantomKey.{PhantomKey}
use Rattle.reasons.specs.declared.policy_owner.PolicyOwner.{PolicyOwner}
use Rattle.reasons.specs.declared.policy_owner.PolicyOwner.TheVariants.{OfKey, OfChaincode}
use Rattle.reasons.specs.declared.policy_text_fault.PolicyTextFault.{PolicyTextFault}
use Rattle.reasons.specs.declared.policy_text_fault.PolicyTextFault.TheVariants.{TooLarge, Syntax, Role, Threshold, TooDeep}
use Rattle.reasons.specs.declared.range_result.RangeResult.{RangeResult}
use Rattle.reasons.specs.declared.reason.Reason.{Reason}
use Rattle.reasons.specs.declared.reason.Reason.TheVariants.{NoFault, NoTransaction, BadSignature, InvalidUpdate, OtherId, UsedId, NotEndorsed, ReadConflict, PhantomConflict, OtherChannel, NotInForm, Undefined}
use Rattle.reasons.specs.declared.shortfall.Shortfall.{Shortfall}
use Rattle.reasons.specs.declared.update_fault.UpdateFault.{UpdateFault}
use Rattle.reasons.specs.declared.update_fault.UpdateFault.TheVariants.{NotAlone, NoAdminPolicy, NoDefinition, NoPolicy, AdminUnsatisfied}
use Rattle.reasons.specs.Reason.{flag_of}
use Rattle.reason_lists.specs.declared.kinds.TheConstants.{NO_FAULT, NO_TRANSACTION, BAD_SIGNATURE, OTHER_CHANNEL, OTHER_ID, USED_ID, NOT_ALONE, NO_ADMIN_POLICY, UPDATE_UNDEFINED, UPDATE_UNREADABLE, ADMIN_UNSATISFIED, UNDEFINED, NAMESPACE_REPEATS, READ_REPEATS, WRITE_REPEATS, POLICY_WRITE_REPEATS, RESULT_FALLS, RESULT_LEAVES, POLICY_UNREADABLE, TOUCHED, KEY_UNSATISFIED, CHAINCODE_UNSATISFIED, NAMED_UNSATISFIED, READ_CONFLICT, PHANTOM_CONFLICT}
use Rattle.reason_lists.specs.declared.pooled.Seen.{Seen}
use Rattle.reason_lists.specs.declared.pooled.PooledReason.{PooledReason}
use Rattle.reason_lists.specs.Shortfalls.{missing_in, missing_role, would_reorder}

abbrev pub nowhere : Piece
nowhere = record { at = 0; len = 0 }

abbrev pub seen : Option Version → Seen
seen None = record { block = 0; tx = 0; is_there = false }
seen (Some v) = record { block = v.block; tx = v.tx; is_there = true }

-- of this kind, and nothing else is told
abbrev pub of_kind : ℕ → PooledReason
of_kind kind = record {
  name = nowhere;
  key = nowhere;
  start = nowhere;
  end = nowhere;
  id = nowhere;
  policy = nowhere;
  missing_org = nowhere;
  read = seen None;
  there = seen None;
  block = 0;
  range_place = 0;
  result_place = 0;
  first_identity = 0;
  signers = 0;
  refused = 0;
  tx = 0;
  flag = 0;
  kind = kind;
  used_flag = 0;
  text_fault = 0;
  missing_role = 0;
  has_tx = false;
  exhausted = false;
  has_missing = false;
  another_order = false;
}

abbrev pub text_fault : PolicyTextFault → ℕ
text_fault TooLarge = 1
text_fault Syntax = 2
text_fault Role = 3
text_fault Threshold = 4
text_fault TooDeep = 5

-- ---- each kind of reason

abbrev pub update_said : UpdateFault → PooledReason
update_said NotAlone = of_kind NOT_ALONE
update_said NoAdminPolicy = of_kind NO_ADMIN_POLICY
update_said (NoDefinition chaincode) = of_kind UPDATE_UNDEFINED
update_said (NoPolicy fault) = record (of_kind UPDATE_UNREADABLE) { text_fault = text_fault fault }
update_said (AdminUnsatisfied x) = of_kind ADMIN_UNSATISFIED

-- the block of the first use is this one, of this number, or an earlier one
abbrev pub use_said : ℕ → IdUse → PooledReason
use_said number (Earlier block place flag) = record (of_kind USED_ID) { block = block; tx = place; has_tx = true; used_flag = number_of flag }
use_said number (Here place flag) = record (of_kind USED_ID) { block = number; tx = place; has_tx = true; used_flag = number_of flag }

abbrev pub unsatisfied_kind : PolicyOwner → ℕ
unsatisfied_kind OfKey = KEY_UNSATISFIED
unsatisfied_kind OfChaincode = CHAINCODE_UNSATISFIED

abbrev pub endorsement_said : EndorsementFault → PooledReason
endorsement_said (Touched namespace key place) = record (of_kind TOUCHED) { tx = place; has_tx = true }
endorsement_said (Unsatisfied namespace key owner x) = of_kind (unsatisfied_kind owner)
endorsement_said (ChaincodeUnsatisfied chaincode x) = of_kind NAMED_UNSATISFIED

-- what was read, what is there, and the transaction that wrote it, if one of the block did
abbrev pub conflict_said : ℕ → Option Version → Option Version → Option ℕ → PooledReason
conflict_said kind read there writer = record (of_kind kind) { read = seen read; there = seen there; tx = unwrap_or writer 0; has_tx = is_some writer }

abbrev pub phantom_said : PhantomKey → PooledReason
phantom_said x = record (conflict_said PHANTOM_CONFLICT x.read x.there x.writer) { exhausted = x.exhausted }

abbrev pub repeat_kind : KeyList → ℕ
repeat_kind Reads = READ_REPEATS
repeat_kind Writes = WRITE_REPEATS
repeat_kind PolicyWrites = POLICY_WRITE_REPEATS

abbrev pub result_said : ℕ → RangeResult → PooledReason
result_said kind x = record (of_kind kind) { range_place = x.range_place; result_place = x.place }

abbrev pub form_said : FormFault → PooledReason
form_said (NamespaceRepeats namespace) = of_kind NAMESPACE_REPEATS
form_said (KeyRepeats namespace list key) = of_kind (repeat_kind list)
form_said (ResultFalls x) = result_said RESULT_FALLS x
form_said (ResultLeaves x) = result_said RESULT_LEAVES x
form_said (UnreadablePolicy namespace key fault) = record (of_kind POLICY_UNREADABLE) { text_fault = text_fault fault }

-- beside the flag and what signers lack, of a place of the block of this number
abbrev pub said : ℕ → Reason → PooledReason
said number NoFault = of_kind NO_FAULT
said number NoTransaction = of_kind NO_TRANSACTION
said number (BadSignature creator) = of_kind BAD_SIGNATURE
said number (InvalidUpdate fault) = update_said fault
said number (OtherId wanted) = of_kind OTHER_ID
said number (UsedId first) = use_said number first
said number (NotEndorsed fault) = endorsement_said fault
said number (ReadConflict x) = conflict_said READ_CONFLICT x.read x.there x.writer
said number (PhantomConflict x) = phantom_said x
said number (OtherChannel channel) = of_kind OTHER_CHANNEL
said number (NotInForm fault) = form_said fault
said number (Undefined chaincode) = of_kind UNDEFINED

-- all of it but for places in a pool
abbrev pub numbers : ℕ → Reason → Option Shortfall → PooledReason
numbers number r lack = record (said number r) {
  flag = number_of (flag_of r);
  missing_role = missing_role (missing_in lack);
  has_missing = is_some (missing_in lack);
  another_order = would_reorder lack;
}
