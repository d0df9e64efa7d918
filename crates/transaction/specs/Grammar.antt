-- The grammar of identities and transactions: which bytes spell which value.
use Rattle.std.specs.Prelude.{◌≡◌, ℕ, ◌^◌, ◌<◌, ◌≤◌, Bool, true, false, List, [], ◌∷◌, ◌++◌, length, Option, Some, None, IfSome, IsTrue}
use Rattle.std.specs.List.{flat_map, AllByRecursion}
use Rattle.byteorder.specs.Endian.{big_bytes}
use Rattle.values.specs.Name.{is_name}
use Rattle.values.specs.Key.{is_key, is_bound}
use Rattle.transaction.specs.declared.identity.Identity.{Identity}
use Rattle.transaction.specs.declared.identity.Role.{Role}
use Rattle.transaction.specs.declared.identity.Role.TheVariants.{Admin, Client, Peer, Orderer}
use Rattle.transaction.specs.declared.transaction.Version.{Version}
use Rattle.transaction.specs.declared.transaction.Read.{Read}
use Rattle.transaction.specs.declared.transaction.KeyVersion.{KeyVersion}
use Rattle.transaction.specs.declared.transaction.Range.{Range}
use Rattle.transaction.specs.declared.transaction.Write.{Write}
use Rattle.transaction.specs.declared.transaction.PolicyWrite.{PolicyWrite}
use Rattle.transaction.specs.declared.transaction.NsSet.{NsSet}
use Rattle.transaction.specs.declared.transaction.Endorsement.{Endorsement}
use Rattle.transaction.specs.declared.transaction.Tx.{Tx}
use Rattle.transaction.specs.Limits.{id_bytes, max_endorsements, max_tx_bytes}

-- ---- how fields are spelled; numbers have the highest byte first

-- a length in k bytes, and that many bytes
abbrev pub counted : ℕ → List ℕ → List ℕ
counted k bytes = big_bytes k (length bytes) ++ bytes

-- a count in k bytes, and that many fields
abbrev pub listed : {A : Type 0} → ℕ → (A → List ℕ) → List A → List ℕ
listed k field items = big_bytes k (length items) ++ flat_map field items

-- 0, or 1 and the field
abbrev pub optional : {A : Type 0} → (A → List ℕ) → Option A → List ℕ
optional field None = 0 ∷ []
optional field (Some x) = 1 ∷ field x

abbrev pub bool_byte : Bool → ℕ
bool_byte false = 0
bool_byte true = 1

abbrev pub role_byte : Role → ℕ
role_byte Admin = 0
role_byte Client = 1
role_byte Peer = 2
role_byte Orderer = 3

-- organization, role, label
abbrev pub identity_bytes : Identity → List ℕ
identity_bytes i = counted 1 i.org ++ (role_byte i.role ∷ counted 1 i.label)

abbrev pub version_bytes : Version → List ℕ
version_bytes v = big_bytes 8 v.block ++ big_bytes 4 v.tx

abbrev pub read_bytes : Read → List ℕ
read_bytes r = counted 2 r.key ++ optional version_bytes r.version

abbrev pub result_bytes : KeyVersion → List ℕ
result_bytes r = counted 2 r.key ++ version_bytes r.version

abbrev pub range_bytes : Range → List ℕ
range_bytes r = counted 2 r.start ++ (counted 2 r.end ++ (bool_byte r.exhausted ∷ listed 2 result_bytes r.results))

abbrev pub write_bytes : Write → List ℕ
write_bytes w = counted 2 w.key ++ optional (counted 4) w.value

abbrev pub policy_write_bytes : PolicyWrite → List ℕ
policy_write_bytes w = counted 2 w.key ++ optional (counted 2) w.policy

abbrev pub namespace_bytes : NsSet → List ℕ
namespace_bytes n = counted 1 n.name ++ (listed 2 read_bytes n.reads ++ (listed 2 range_bytes n.ranges ++ (listed 2 write_bytes n.writes ++ listed 2 policy_write_bytes n.policy_writes)))

abbrev pub endorsement_bytes : Endorsement → List ℕ
endorsement_bytes e = identity_bytes e.endorser ++ counted 2 e.signature

-- channel, id, creator, nonce, named chaincode, namespaces
abbrev pub body_bytes : Tx → List ℕ
body_bytes tx = counted 1 tx.channel ++ (tx.id ++ (identity_bytes tx.creator ++ (counted 1 tx.nonce ++ (counted 1 tx.chaincode ++ listed 2 namespace_bytes tx.namespaces))))

-- the body and the endorsements
abbrev pub signed_bytes : Tx → List ℕ
signed_bytes tx = body_bytes tx ++ listed 1 endorsement_bytes tx.endorsements

-- the signed part and the creator's signature
abbrev pub whole_bytes : Tx → List ℕ
whole_bytes tx = signed_bytes tx ++ counted 2 tx.signature

-- ---- what is within its limits

pub record IsIdentity (i : Identity) : Type 0 where
  pub org : IsTrue (is_name i.org)
  pub label : length i.label < 2 ^ 8

pub record IsVersion (v : Version) : Type 0 where
  pub block : v.block < 2 ^ 64
  pub tx : v.tx < 2 ^ 32

pub record IsRead (r : Read) : Type 0 where
  pub key : IsTrue (is_key r.key)
  pub version : IfSome r.version IsVersion

pub record IsResult (r : KeyVersion) : Type 0 where
  pub key : IsTrue (is_key r.key)
  pub version : IsVersion r.version

-- up to 65,535 items, each within its limits
abbrev pub AreItems : {A : Type 0} → (A → Type 0) → List A → Type 0
AreItems P items = (length items < 2 ^ 16) × AllByRecursion P items

pub record IsRange (r : Range) : Type 0 where
  pub start : IsTrue (is_bound r.start)
  pub end : IsTrue (is_bound r.end)
  pub results : AreItems IsResult r.results

pub record IsWrite (w : Write) : Type 0 where
  pub key : IsTrue (is_key w.key)
  pub value : IfSome w.value (λ value. length value < 2 ^ 32)

pub record IsPolicyWrite (w : PolicyWrite) : Type 0 where
  pub key : IsTrue (is_key w.key)
  pub policy : IfSome w.policy (λ text. length text < 2 ^ 16)

pub record IsNsSet (n : NsSet) : Type 0 where
  pub name : IsTrue (is_name n.name)
  pub reads : AreItems IsRead n.reads
  pub ranges : AreItems IsRange n.ranges
  pub writes : AreItems IsWrite n.writes
  pub policy_writes : AreItems IsPolicyWrite n.policy_writes

pub record IsEndorsement (e : Endorsement) : Type 0 where
  pub endorser : IsIdentity e.endorser
  pub signature : length e.signature < 2 ^ 16

pub record AreEndorsements (endorsements : List Endorsement) : Type 0 where
  pub count : length endorsements ≤ max_endorsements
  pub each : AllByRecursion IsEndorsement endorsements

pub record IsBody (tx : Tx) : Type 0 where
  pub channel : IsTrue (is_name tx.channel)
  pub id : length tx.id ≡ id_bytes
  pub creator : IsIdentity tx.creator
  pub nonce : length tx.nonce < 2 ^ 8
  pub chaincode : IsTrue (is_name tx.chaincode)
  pub namespaces : AreItems IsNsSet tx.namespaces

pub record IsSigned (tx : Tx) : Type 0 where
  pub body : IsBody tx
  pub endorsements : AreEndorsements tx.endorsements

pub record IsWhole (tx : Tx) : Type 0 where
  pub signed : IsSigned tx
  pub signature : length tx.signature < 2 ^ 16

-- ---- which bytes spell which value

pub record SpellsIdentity (bytes : List ℕ) (i : Identity) : Type 0 where
  pub fits : IsIdentity i
  pub fields : bytes ≡ identity_bytes i

-- each of the three has at most 1,048,576 bytes by itself
pub record SpellsBody (bytes : List ℕ) (tx : Tx) : Type 0 where
  pub fits : IsBody tx
  pub fields : bytes ≡ body_bytes tx
  pub short : length bytes ≤ max_tx_bytes

pub record SpellsSigned (bytes : List ℕ) (tx : Tx) : Type 0 where
  pub fits : IsSigned tx
  pub fields : bytes ≡ signed_bytes tx
  pub short : length bytes ≤ max_tx_bytes

pub record SpellsTx (bytes : List ℕ) (tx : Tx) : Type 0 where
  pub fits : IsWhole tx
  pub fields : bytes ≡ whole_bytes tx
  pub short : length bytes ≤ max_tx_bytes
