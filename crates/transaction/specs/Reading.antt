-- Reading identities and transactions from left to right. It stands between the code and the grammar, to which the law
-- `transaction_reading` joins it.
use Rattle.std.specs.Prelude.{◌≡◌, ℕ, ◌==◌, nat_le, Bool, true, false, List, length, if◌then◌else◌, Option, Some, None, Result, Ok, Err}
use Rattle.values.specs.Name.{is_name}
use Rattle.values.specs.Key.{is_key, is_bound}
use Rattle.transaction.specs.declared.identity.Identity.{Identity}
use Rattle.transaction.specs.declared.identity.Role.{Role}
use Rattle.transaction.specs.declared.identity.Role.TheVariants.{Admin, Client, Peer, Orderer}
use Rattle.transaction.specs.declared.transaction.Version.{Version}
use Rattle.transaction.specs.declared.transaction.Read.{Read as ReadOfKey}
use Rattle.transaction.specs.declared.transaction.KeyVersion.{KeyVersion}
use Rattle.transaction.specs.declared.transaction.Range.{Range}
use Rattle.transaction.specs.declared.transaction.Write.{Write}
use Rattle.transaction.specs.declared.transaction.PolicyWrite.{PolicyWrite}
use Rattle.transaction.specs.declared.transaction.NsSet.{NsSet}
use Rattle.transaction.specs.declared.transaction.Endorsement.{Endorsement}
use Rattle.transaction.specs.declared.transaction.Tx.{Tx}
use Rattle.transaction.specs.Limits.{id_bytes, max_endorsements, max_tx_bytes}
use Rattle.transaction.specs.declared.fault.TxFault.{TxFault}
use Rattle.transaction.specs.declared.fault.TxFault.TheVariants.{Form, Memory}
use Rattle.transaction.specs.Combined.{Reader, ◌>>=◌, bytes_at, number_at, counted_at, tested_at, pair_at, mapped_at, byte_at, optional_at, listed_at, few_at}

abbrev pub bool_of : ℕ → Option Bool
bool_of b = if b == 0 then Some false else if b == 1 then Some true else None

abbrev pub role_of : ℕ → Option Role
role_of b = if b == 0 then Some Admin else if b == 1 then Some Client else if b == 2 then Some Peer else if b == 3 then Some Orderer else None

unfoldable pub name_at : Reader (List ℕ)
name_at bytes = tested_at is_name (counted_at 1) bytes

unfoldable pub key_at : Reader (List ℕ)
key_at bytes = tested_at is_key (counted_at 2) bytes

unfoldable pub bound_at : Reader (List ℕ)
bound_at bytes = tested_at is_bound (counted_at 2) bytes

unfoldable pub identity_at : Reader Identity
identity_at bytes = mapped_at (λ p. record { org = p.0; role = p.1.0; label = p.1.1 }) (pair_at name_at (pair_at (byte_at role_of) (counted_at 1))) bytes

unfoldable pub version_at : Reader Version
version_at bytes = mapped_at (λ p. record { block = p.0; tx = p.1 }) (pair_at (number_at 8) (number_at 4)) bytes

unfoldable pub read_at : Reader ReadOfKey
read_at bytes = mapped_at (λ p. record { key = p.0; version = p.1 }) (pair_at key_at (optional_at version_at)) bytes

unfoldable pub result_at : Reader KeyVersion
result_at bytes = mapped_at (λ p. record { key = p.0; version = p.1 }) (pair_at key_at version_at) bytes

unfoldable pub range_at : Reader Range
range_at bytes =
    mapped_at (λ p. record { start = p.0; end = p.1.0; exhausted = p.1.1.0; results = p.1.1.1 })
    (pair_at bound_at (pair_at bound_at (pair_at (byte_at bool_of) (listed_at 2 result_at)))) bytes

unfoldable pub write_at : Reader Write
write_at bytes = mapped_at (λ p. record { key = p.0; value = p.1 }) (pair_at key_at (optional_at (counted_at 4))) bytes

unfoldable pub policy_write_at : Reader PolicyWrite
policy_write_at bytes = mapped_at (λ p. record { key = p.0; policy = p.1 }) (pair_at key_at (optional_at (counted_at 2))) bytes

unfoldable pub namespace_at : Reader NsSet
namespace_at bytes =
    mapped_at (λ p. record { name = p.0; reads = p.1.0; ranges = p.1.1.0; writes = p.1.1.1.0; policy_writes = p.1.1.1.1 })
    (pair_at name_at (pair_at (listed_at 2 read_at) (pair_at (listed_at 2 range_at) (pair_at (listed_at 2 write_at) (listed_at 2 policy_write_at))))) bytes

unfoldable pub endorsement_at : Reader Endorsement
endorsement_at bytes = mapped_at (λ p. record { endorser = p.0; signature = p.1 }) (pair_at identity_at (counted_at 2)) bytes

-- the fields of a body, and those behind it
abbrev pub Body : Type 0
Body = List ℕ × (List ℕ × (Identity × (List ℕ × (List ℕ × List NsSet))))

unfoldable pub body_at : Reader Body
body_at bytes =
    pair_at name_at (pair_at (bytes_at id_bytes) (pair_at identity_at (pair_at (counted_at 1) (pair_at name_at (listed_at 2 namespace_at))))) bytes

abbrev pub tx_from : Body × (List Endorsement × List ℕ) → Tx
tx_from p = record { channel = p.0.0; id = p.0.1.0; creator = p.0.1.1.0; nonce = p.0.1.1.1.0; chaincode = p.0.1.1.1.1.0; namespaces = p.0.1.1.1.1.1; endorsements = p.1.0; signature = p.1.1 }

unfoldable pub tx_at : Reader Tx
tx_at bytes = mapped_at tx_from (pair_at body_at (pair_at (few_at max_endorsements endorsement_at) (counted_at 2))) bytes

-- all of the bytes, and not too many
abbrev pub all_at : {A : Type 0} → Reader A → List ℕ → Option A
all_at read bytes = read bytes >>= λ x. if length x.1 == 0 then Some x.0 else None

unfoldable pub whole_tx_at : List ℕ → Option Tx
whole_tx_at bytes = if nat_le (length bytes) max_tx_bytes then all_at tx_at bytes else None

-- ---- what a function answered is what reading gives, unless memory ran out

abbrev pub Gives : {X Y : Type 0} → (X → Y) → Result X TxFault → Option Y → Type 0
Gives view (Ok x) read = read ≡ Some (view x)
Gives view (Err Form) read = read ≡ None
Gives view (Err Memory) read = Unit {0}
