-- What encoding returns. No public contract cites this.
use Rattle.std.specs.Prelude.{◌≡◌, ◌<◌, ◌≤◌, ℕ, List, length, Result, Ok, Err}
use Rattle.transaction.specs.Grammar.{IsBody, IsSigned, IsWhole}
use Rattle.transaction.specs.UpdateGrammar.{IsUpdateBody, IsSignedUpdate, IsWholeUpdate}
use Rattle.transaction.specs.Limits.{max_tx_bytes}
use Rattle.transaction.specs.declared.item.Item.{Item}
use Rattle.transaction.specs.declared.item.Item.TheVariants as item
use Rattle.transaction.specs.declared.fault.EncodeFault.{EncodeFault}
use Rattle.transaction.specs.declared.fault.EncodeFault.TheVariants.{TooLarge, Memory}

-- these bytes, or that they are too many; or memory ran out
abbrev pub Encodes : Result (List ℕ) EncodeFault → List ℕ → Type 0
Encodes (Ok bytes) wanted = (bytes ≡ wanted) × (length wanted ≤ max_tx_bytes)
Encodes (Err TooLarge) wanted = max_tx_bytes < length wanted
Encodes (Err Memory) wanted = Unit {0}

-- ---- what can be encoded, if it isn't too long

abbrev pub IsBodyItem : Item → Type 0
IsBodyItem (item.Tx tx) = IsBody tx
IsBodyItem (item.Update u) = IsUpdateBody u

abbrev pub IsSignedItem : Item → Type 0
IsSignedItem (item.Tx tx) = IsSigned tx
IsSignedItem (item.Update u) = IsSignedUpdate u

abbrev pub IsWholeItem : Item → Type 0
IsWholeItem (item.Tx tx) = IsWhole tx
IsWholeItem (item.Update u) = IsWholeUpdate u
