-- What a call tells of a block.
use Rattle.std.specs.Prelude.{ℕ, length, Result, Ok, Err}
use Rattle.block.specs.declared.fault.BlockFault.{BlockFault}
use Rattle.block.specs.declared.fault.BlockFault.TheVariants as fault
use Rattle.rules.specs.declared.answer.Accepted.{Accepted}
use Rattle.rules.specs.declared.answer.Refused.{Refused}
use Rattle.rules.specs.declared.answer.Refused.TheVariants.{Malformed, WrongNumber, WrongPrevious, WrongDataHash, OldVersion, Memory}
use Rattle.rules.specs.declared.committed.CommittedBlock.{CommittedBlock}
use Rattle.c_calls.specs.declared.receipt.Receipt.{Receipt}

abbrev pub code_of : Refused → ℕ
code_of (Malformed _) = 1
code_of (WrongNumber _ _) = 2
code_of WrongPrevious = 3
code_of WrongDataHash = 4
code_of OldVersion = 5
code_of Memory = 6

abbrev pub code_after : Result Accepted Refused → ℕ
code_after (Ok a) = 0
code_after (Err refused) = code_of refused

-- the faults of a block's bytes in the order of their list
abbrev pub fault_number : BlockFault → ℕ
fault_number fault.BadMagic = 1
fault_number fault.Truncated = 2
fault_number fault.PreviousLength = 3
fault_number fault.TooManyTxs = 4
fault_number fault.TxTooLong = 5
fault_number fault.TrailingBytes = 6
fault_number fault.Memory = 0

-- what stands beside the code of a refusal; nothing else is told
abbrev pub refused_receipt : Refused → Receipt → Receipt
refused_receipt (Malformed fault) r = record r { got = fault_number fault }
refused_receipt (WrongNumber want got) r = record r { number = want; got = got }
refused_receipt WrongPrevious r = r
refused_receipt WrongDataHash r = r
refused_receipt OldVersion r = r
refused_receipt Memory r = r

abbrev pub receipt_after : Result Accepted Refused → Receipt → Receipt
receipt_after (Ok a) r = record { number = a.number; got = a.number; flags = length a.flags; header_hash = a.header_hash; commit_hash = a.commit_hash }
receipt_after (Err refused) r = refused_receipt refused r

-- that of an accepted block of this number
abbrev pub receipt_of : ℕ → CommittedBlock → Receipt
receipt_of number b = record { number = number; got = number; flags = length b.flags; header_hash = b.header_hash; commit_hash = b.commit_hash }
