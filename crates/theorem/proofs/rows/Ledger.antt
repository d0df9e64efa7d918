-- What the worked rows share: a ledger of height 1, and blocks over it.
use Rattle.std.proofs.Common.{ℕ, List, [], ◌∷◌, Option, Some}
use Rattle.std.specs.Prelude.{codes}
use Rattle.std.specs.FinMap.{empty}
use Rattle.transaction.specs.declared.item.Item.{Item}
use Rattle.transaction.specs.declared.item.Item.TheVariants as item
use Rattle.transaction.specs.declared.transaction.Tx.{Tx}
use Rattle.transaction.specs.Grammar.{identity_bytes}
use Rattle.header_hash.specs.Hashes.{tx_id_of}
use Rattle.rules.specs.State.{State}
use Rattle.rules.specs.World.{World}
use Rattle.rules.proofs.rows.Shared.{p0, q0, k, channel, any, endorsed_by, kept, state_with}
use Rattle.theorem.specs.Serial.{SoFar, after_items}

-- a ledger with this state after block 0
abbrev pub ledger_with : State → World
ledger_with s = record { state = s; history = empty; first_uses = empty; definitions = channel.definitions; blocks = kept ∷ [] }

-- k was written by transaction 0 of block 0
abbrev pub ledger_1 : World
ledger_1 = ledger_with (state_with (k ∷ []))

-- block 1, after these items
abbrev pub executed : List (Option Item) → SoFar
executed items = after_items channel any ledger_1 items

-- endorsed by nobody, by a peer of Org1, by a peer of each organization; all of one nonce and creator, so of one id
abbrev pub by_nobody : Tx → Option Item
by_nobody t = Some (item.Tx t)

abbrev pub by_one : Tx → Option Item
by_one t = Some (item.Tx (endorsed_by (p0 ∷ []) t))

abbrev pub by_both : Tx → Option Item
by_both t = Some (item.Tx (endorsed_by (p0 ∷ q0 ∷ []) t))

abbrev pub second_id : List ℕ
second_id = tx_id_of (codes "n2") (identity_bytes p0)

-- with another nonce, and so another id
abbrev pub renewed : Tx → Tx
renewed t = record t { nonce = codes "n2"; id = second_id }
