-- Worked rows of the grammar of updates and items.
use Rattle.std.proofs.Common.{◌≡◌, ℕ, List, [], ◌∷◌, ◌++◌, length, replicate, Some, None, refl}
use Rattle.transaction.specs.declared.block_version.BlockVersion.TheVariants.{V1, V2}
use Rattle.transaction.specs.declared.identity.Identity.{Identity}
use Rattle.transaction.specs.declared.identity.Role.TheVariants.{Admin}
use Rattle.transaction.specs.declared.item.Item.TheVariants as item
use Rattle.transaction.specs.declared.update.Update.{Update}
use Rattle.transaction.specs.UpdateGrammar.{update_body_bytes, update_signed_bytes, update_whole_bytes}
use Rattle.transaction.specs.Reading.{name_at, identity_at, endorsement_at, body_at, tx_at, whole_tx_at}
use Rattle.transaction.specs.Combined.{fields_at}
use Rattle.transaction.specs.Openings.{opening_at}
use Rattle.transaction.specs.UpdateReading.{update_at, whole_update_at}
use Rattle.transaction.specs.Items.{item_of}

-- `Org1:admin:a0`
abbrev admin_0 : Identity
admin_0 = record { org = 79 ∷ 114 ∷ 103 ∷ 49 ∷ []; role = Admin; label = 97 ∷ 48 ∷ [] }

-- In channel `ch`, namespace `cc` gets the policy `OR('Org2.peer')`. Creator `Org1:admin:a0`, nonce `n2`, one endorsement of the
-- creator's, signatures of 32 bytes.
abbrev signature : List ℕ
signature = replicate 32 7

abbrev example : Update
example = record {
  channel = 99 ∷ 104 ∷ [];
  id = replicate 64 5;
  creator = admin_0;
  nonce = 110 ∷ 50 ∷ [];
  namespace = 99 ∷ 99 ∷ [];
  policy = 79 ∷ 82 ∷ 40 ∷ 39 ∷ 79 ∷ 114 ∷ 103 ∷ 50 ∷ 46 ∷ 112 ∷ 101 ∷ 101 ∷ 114 ∷ 39 ∷ 41 ∷ [];
  endorsements = record { endorser = admin_0; signature = signature } ∷ [];
  signature = signature;
}

body_of_100 : length (update_body_bytes example) ≡ 100
body_of_100 = refl

body_as_written : update_body_bytes example ≡
    0 ∷ 2 ∷ 99 ∷ 104 ∷
    5 ∷ 5 ∷ 5 ∷ 5 ∷ 5 ∷ 5 ∷ 5 ∷ 5 ∷ 5 ∷ 5 ∷ 5 ∷ 5 ∷ 5 ∷ 5 ∷ 5 ∷ 5 ∷
    5 ∷ 5 ∷ 5 ∷ 5 ∷ 5 ∷ 5 ∷ 5 ∷ 5 ∷ 5 ∷ 5 ∷ 5 ∷ 5 ∷ 5 ∷ 5 ∷ 5 ∷ 5 ∷
    5 ∷ 5 ∷ 5 ∷ 5 ∷ 5 ∷ 5 ∷ 5 ∷ 5 ∷ 5 ∷ 5 ∷ 5 ∷ 5 ∷ 5 ∷ 5 ∷ 5 ∷ 5 ∷
    5 ∷ 5 ∷ 5 ∷ 5 ∷ 5 ∷ 5 ∷ 5 ∷ 5 ∷ 5 ∷ 5 ∷ 5 ∷ 5 ∷ 5 ∷ 5 ∷ 5 ∷ 5 ∷
    4 ∷ 79 ∷ 114 ∷ 103 ∷ 49 ∷ 0 ∷ 2 ∷ 97 ∷ 48 ∷ 2 ∷ 110 ∷ 50 ∷ 2 ∷ 99 ∷ 99 ∷
    0 ∷ 15 ∷ 79 ∷ 82 ∷ 40 ∷ 39 ∷ 79 ∷ 114 ∷ 103 ∷ 50 ∷ 46 ∷ 112 ∷ 101 ∷ 101 ∷ 114 ∷ 39 ∷ 41 ∷ []
body_as_written = refl

creators_message_of_144 : length (update_signed_bytes example) ≡ 144
creators_message_of_144 = refl

-- behind the body
signed_part_as_written : update_signed_bytes example ≡
    update_body_bytes example ++ ((1 ∷ 4 ∷ 79 ∷ 114 ∷ 103 ∷ 49 ∷ 0 ∷ 2 ∷ 97 ∷ 48 ∷ 0 ∷ 32 ∷ []) ++ signature)
signed_part_as_written = refl

whole_of_178 : length (update_whole_bytes example) ≡ 178
whole_of_178 = refl

an_item_in_version_2 : item_of V2 (update_whole_bytes example) ≡ Some (item.Update example)
unfolding whole_update_at update_at opening_at name_at identity_at endorsement_at fields_at
an_item_in_version_2 = refl

none_in_version_1 : item_of V1 (update_whole_bytes example) ≡ None
unfolding whole_tx_at tx_at body_at name_at
none_in_version_1 = refl
