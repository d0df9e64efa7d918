-- What `fabcommit_list` tells.
use Rattle.std.specs.Prelude.{◌≡◌, ◌⊎◌, ℕ, List, length, nat_le, ◌&&◌, if◌then◌else◌, Result, Ok, Err}
use Rattle.block.specs.declared.fault.BlockFault.{BlockFault}
use Rattle.block.specs.declared.fault.BlockFault.TheVariants.{Memory}
use Rattle.block.specs.Faults.{HasFault}
use Rattle.verdicts.specs.declared.verdict.Verdict.{Verdict}
use Rattle.verdict_lists.specs.declared.listing.ListedVerdicts.{ListedVerdicts}
use Rattle.verdict_lists.specs.Listed.{AreVerdicts, refused}
use Rattle.c_calls.specs.declared.codes.TheConstants.{OK, MALFORMED, MEMORY, SMALL}
use Rattle.c_calls.specs.declared.list.Sizes.{Sizes}
use Rattle.c_calls.specs.Buffers.{with_front}

-- the verdicts on all that the block of these bytes asks, none of which accepts; or why they spell none
abbrev pub IsListed : List ℕ → Result ListedVerdicts BlockFault → Type 0
IsListed bytes (Ok l) = AreVerdicts refused bytes l.pool l.verdicts
IsListed bytes (Err fault) = (fault ≡ Memory) ⊎ HasFault bytes fault

-- The sizes were told. Where both fit, both were written, and else neither.
pub record Told (l : ListedVerdicts) (pool pool' : List ℕ) (verdicts verdicts' : List Verdict) (sizes : Sizes) (code : ℕ) : Type 0 where
  pub told_sizes : sizes ≡ record { pool = length l.pool; verdicts = length l.verdicts }
  pub told_code : code ≡ (if nat_le (length l.pool) (length pool) && nat_le (length l.verdicts) (length verdicts) then OK else SMALL)
  pub pool_after : pool' ≡ (if nat_le (length l.pool) (length pool) && nat_le (length l.verdicts) (length verdicts) then with_front l.pool pool else pool)
  pub verdicts_after : verdicts' ≡ (if nat_le (length l.pool) (length pool) && nat_le (length l.verdicts) (length verdicts) then with_front l.verdicts verdicts else verdicts)

-- out of memory is no fault of the bytes
abbrev pub fault_code : BlockFault → ℕ
fault_code Memory = MEMORY
fault_code _ = MALFORMED

-- Nothing was told but the code.
pub record Refused (fault : BlockFault) (pool pool' : List ℕ) (verdicts verdicts' : List Verdict) (sizes sizes' : Sizes) (code : ℕ) : Type 0 where
  pub told_code : code ≡ fault_code fault
  pub pool_same : pool' ≡ pool
  pub verdicts_same : verdicts' ≡ verdicts
  pub sizes_same : sizes' ≡ sizes

abbrev pub ListTold : Result ListedVerdicts BlockFault → List ℕ → List ℕ → List Verdict → List Verdict → Sizes → Sizes → ℕ → Type 0
ListTold (Ok l) pool pool' verdicts verdicts' sizes sizes' code = Told l pool pool' verdicts verdicts' sizes' code
ListTold (Err fault) pool pool' verdicts verdicts' sizes sizes' code = Refused fault pool pool' verdicts verdicts' sizes sizes' code
