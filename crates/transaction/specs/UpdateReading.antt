-- Reading updates of definitions from left to right. It stands between the code and the grammar, to which the law
-- `item_reading` joins it.
use Rattle.std.specs.Prelude.{ℕ, ◌==◌, nat_le, List, length, if◌then◌else◌, Option, Some, None}
use Rattle.transaction.specs.declared.transaction.Endorsement.{Endorsement}
use Rattle.transaction.specs.declared.update.Update.{Update}
use Rattle.transaction.specs.Limits.{max_endorsements, max_tx_bytes}
use Rattle.transaction.specs.Combined.{Reader, counted_at, pair_at, mapped_at, byte_at, few_at}
use Rattle.transaction.specs.Reading.{name_at, endorsement_at, all_at}
use Rattle.transaction.specs.Openings.{Opening, opening_at}

-- the byte with which an update begins
abbrev pub mark_of : ℕ → Option (Unit {0})
mark_of b = if b == 0 then Some tt else None

-- the mark, what bodies begin with, namespace, policy, endorsements, signature
abbrev pub UpdateFields : Type 0
UpdateFields = Unit {0} × (Opening × (List ℕ × (List ℕ × (List Endorsement × List ℕ))))

abbrev pub update_from : UpdateFields → Update
update_from p = record {
  channel = p.1.0.0;
  id = p.1.0.1.0;
  creator = p.1.0.1.1.0;
  nonce = p.1.0.1.1.1;
  namespace = p.1.1.0;
  policy = p.1.1.1.0;
  endorsements = p.1.1.1.1.0;
  signature = p.1.1.1.1.1;
}

unfoldable pub update_at : Reader Update
update_at bytes =
    mapped_at update_from
    (pair_at (byte_at mark_of)
    (pair_at opening_at (pair_at name_at (pair_at (counted_at 2) (pair_at (few_at max_endorsements endorsement_at) (counted_at 2)))))) bytes

-- all of the bytes, and not too many
unfoldable pub whole_update_at : List ℕ → Option Update
whole_update_at bytes = if nat_le (length bytes) max_tx_bytes then all_at update_at bytes else None
