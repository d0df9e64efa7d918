-- Header hash, data hash and transaction id: SHA-256 (FIPS 180-4) of a header's DER bytes, of a block's transactions
-- joined in order, and of a nonce followed by its creator's identity bytes, the last as lower case hexadecimal text.
-- And the commit hash of a block: SHA-256 of the one before it, followed by what the block changes.
use Rattle.std.specs.Prelude.{ℕ, List, ◌++◌}
use Rattle.std.specs.List.{flat_map}
use Rattle.sha2.specs.Sha256.{sha256}
use Rattle.hex.specs.Hex.{encode_lower}
use Rattle.block.specs.declared.block.Header.{Header}
use Rattle.header_hash.specs.Der.{der_of}

abbrev pub header_hash_of : Header → List ℕ
header_hash_of h = sha256 (der_of h)

-- the transactions' bytes, one after the other
abbrev pub joined : List (List ℕ) → List ℕ
joined txs = flat_map (λ tx. tx) txs

abbrev pub data_hash_of : List (List ℕ) → List ℕ
data_hash_of txs = sha256 (joined txs)

abbrev pub tx_id_of : List ℕ → List ℕ → List ℕ
tx_id_of nonce creator = encode_lower (sha256 (nonce ++ creator))

abbrev pub commit_hash_of : List ℕ → List ℕ → List ℕ
commit_hash_of previous changed = sha256 (previous ++ changed)
