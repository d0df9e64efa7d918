-- What a step may ask the verifier, by the block alone: of each item that the block's bytes spell, the creator's signature and each
-- endorser's. Over one channel and world a step may ask less: nothing of what is for another channel, and endorsers only where all
-- else holds of their item.
use Rattle.std.specs.Prelude.{◌≡◌, ℕ, List, [], ◌∷◌, ◌++◌, map, Option, Some, None}
use Rattle.std.specs.List.{flat_map}
use Rattle.block.specs.declared.block.Block.{Block}
use Rattle.block.specs.Grammar.{Spells}
use Rattle.transaction.specs.declared.transaction.Endorsement.{Endorsement}
use Rattle.transaction.specs.declared.item.Item.{Item}
use Rattle.transaction.specs.declared.item.Item.TheVariants as item
use Rattle.transaction.specs.Grammar.{identity_bytes}
use Rattle.transaction.specs.Items.{item_body_bytes}
use Rattle.rules.specs.Candidate.{origin_of}
use Rattle.rules.specs.Commit.{items_of}
use Rattle.signature_requests.specs.declared.request.Request.{Request}

-- the creator signs all bytes before its signature
abbrev pub creator_request : Item → Request
creator_request i = let o = origin_of i in record { identity = o.creator; message = o.message; signature = o.signature }

-- an endorser signs the body followed by its own identity bytes
abbrev pub endorser_request : List ℕ → Endorsement → Request
endorser_request body e = record { identity = e.endorser; message = body ++ identity_bytes e.endorser; signature = e.signature }

abbrev pub endorsements_of : Item → List Endorsement
endorsements_of (item.Tx tx) = tx.endorsements
endorsements_of (item.Update u) = u.endorsements

-- of a transaction or an update its creator's, and then its endorsers' in order; of bytes that spell neither nothing
abbrev pub requests_of : Option Item → List Request
requests_of None = []
requests_of (Some i) = creator_request i ∷ map (endorser_request (item_body_bytes i)) (endorsements_of i)

-- of items in order
abbrev pub requests_in : List (Option Item) → List Request
requests_in items = flat_map requests_of items

-- of all items of a block
abbrev pub block_requests : Block → List Request
block_requests b = requests_in (items_of b)

-- The bytes spell a block, and these are its requests.
pub record AreRequests (bytes : List ℕ) (requests : List Request) : Type 0 where
  pub block : Block
  pub spelled : Spells bytes block
  pub listed : requests ≡ block_requests block
