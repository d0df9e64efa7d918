-- What `fabcommit_share` does to the other handle.
use Rattle.std.specs.Prelude.{◌≡◌, ◌≢◌, ℕ, Option, None, Some}
use Rattle.c_handle.specs.declared.kept.Kept.{Kept}
use Rattle.c_calls.specs.declared.codes.TheConstants.{OK, MEMORY, CLOSED}

-- It holds what the handle holds; out of memory, what it held before.
pub record SharedOf (kept : Kept) (other other' : Option Kept) (code : ℕ) : Type 0 where
  pub shared : code ≡ OK → other' ≡ Some kept
  pub not_shared : code ≢ OK → (code ≡ MEMORY) × (other' ≡ other)

abbrev pub SharedBy : Option Kept → Option Kept → Option Kept → ℕ → Type 0
SharedBy None other other' code = (code ≡ CLOSED) × (other' ≡ other)
SharedBy (Some kept) other other' code = SharedOf kept other other' code
