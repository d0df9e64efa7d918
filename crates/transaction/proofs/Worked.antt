-- Worked rows of the grammar of identities and transactions.
use Rattle.std.proofs.Common.{◌≡◌, ℕ, List, [], ◌∷◌, ◌++◌, length, replicate, Some, refl, arith}
use Rattle.transaction.specs.declared.identity.Identity.{Identity}
use Rattle.transaction.specs.declared.identity.Role.TheVariants.{Client, Peer}
use Rattle.transaction.specs.declared.transaction.Tx.{Tx}
use Rattle.transaction.specs.Grammar.{body_bytes, signed_bytes, whole_bytes, SpellsIdentity}

-- `Org1:peer:p0`
abbrev peer_0 : Identity
peer_0 = record { org = 79 ∷ 114 ∷ 103 ∷ 49 ∷ []; role = Peer; label = 112 ∷ 48 ∷ [] }

identity_of_a_peer : SpellsIdentity (4 ∷ 79 ∷ 114 ∷ 103 ∷ 49 ∷ 2 ∷ 2 ∷ 112 ∷ 48 ∷ []) peer_0
identity_of_a_peer = record { fits = record { org = refl; label = omega arith }; fields = refl }

-- Channel `ch`, creator `Org1:client:c0`, nonce `n1`, chaincode `cc`, one namespace `cc` with a read of `k1` at (0, 0)
-- and a write of `k3` with the value `v`, one endorsement of `Org1:peer:p0`, signatures of 32 bytes.
abbrev signature : List ℕ
signature = replicate 32 7

abbrev example : Tx
example = record {
  channel = 99 ∷ 104 ∷ [];
  id = replicate 64 5;
  creator = record { org = 79 ∷ 114 ∷ 103 ∷ 49 ∷ []; role = Client; label = 99 ∷ 48 ∷ [] };
  nonce = 110 ∷ 49 ∷ [];
  chaincode = 99 ∷ 99 ∷ [];
  namespaces = record {
    name = 99 ∷ 99 ∷ [];
    reads = record { key = 107 ∷ 49 ∷ []; version = Some (record { block = 0; tx = 0 }) } ∷ [];
    ranges = [];
    writes = record { key = 107 ∷ 51 ∷ []; value = Some (118 ∷ []) } ∷ [];
    policy_writes = [];
  } ∷ [];
  endorsements = record { endorser = peer_0; signature = signature } ∷ [];
  signature = signature;
}

body_of_122 : length (body_bytes example) ≡ 122
body_of_122 = refl

signed_part_of_166 : length (signed_bytes example) ≡ 166
signed_part_of_166 = refl

whole_of_200 : length (whole_bytes example) ≡ 200
whole_of_200 = refl

-- the namespaces' bytes
namespaces_as_written : body_bytes example ≡ ((2 ∷ 99 ∷ 104 ∷ []) ++ replicate 64 5) ++ (4 ∷ 79 ∷ 114 ∷ 103 ∷ 49 ∷ 1 ∷ 2 ∷ 99 ∷ 48 ∷ 2 ∷ 110 ∷ 49 ∷ 2 ∷ 99 ∷ 99 ∷ 0 ∷ 1 ∷ 2 ∷ 99 ∷ 99 ∷ 0 ∷ 1 ∷ 0 ∷ 2 ∷ 107 ∷ 49 ∷ 1 ∷ 0 ∷ 0 ∷ 0 ∷ 0 ∷ 0 ∷ 0 ∷ 0 ∷ 0 ∷ 0 ∷ 0 ∷ 0 ∷ 0 ∷ 0 ∷ 0 ∷ 0 ∷ 1 ∷ 0 ∷ 2 ∷ 107 ∷ 51 ∷ 1 ∷ 0 ∷ 0 ∷ 0 ∷ 1 ∷ 118 ∷ 0 ∷ 0 ∷ [])
namespaces_as_written = refl
