-- What the worked rows are made of: identities, policies, transactions, candidates, and blocks over a state.
use Rattle.transaction.specs.declared.item.Item.TheVariants as item
use Rattle.transaction.specs.declared.block_version.BlockVersion.TheVariants.{V1}
use Rattle.std.proofs.Common.{◌≡◌, ℕ, true, false, List, [], ◌∷◌, map, Option, Some, None, Ok, Err, refl}
use Rattle.std.specs.Prelude.{codes, replicate}
use Rattle.std.specs.FinMap.{from_entries}
use Rattle.transaction.specs.declared.block_version.BlockVersion.TheVariants.{V1}
use Rattle.transaction.specs.declared.identity.Role.TheVariants.{Peer, Admin}
use Rattle.transaction.specs.declared.identity.Identity.{Identity}
use Rattle.transaction.specs.declared.transaction.Version.{Version}
use Rattle.transaction.specs.declared.transaction.Read.{Read}
use Rattle.transaction.specs.declared.transaction.KeyVersion.{KeyVersion}
use Rattle.transaction.specs.declared.transaction.Range.{Range}
use Rattle.transaction.specs.declared.transaction.Write.{Write}
use Rattle.transaction.specs.declared.transaction.PolicyWrite.{PolicyWrite}
use Rattle.transaction.specs.declared.transaction.NsSet.{NsSet}
use Rattle.transaction.specs.declared.transaction.Tx.{Tx}
use Rattle.transaction.specs.Grammar.{identity_bytes}
use Rattle.header_hash.specs.Hashes.{tx_id_of}
use Rattle.policy.specs.declared.tree.PolicyRole.TheVariants as wanted
use Rattle.policy.specs.Tree.{Tree, principal, gate, none, more}
use Rattle.policy.specs.Fault.{syntax_fault}
use Rattle.values.specs.Order.{bytes_cmp}
use Rattle.policy.specs.Policies.{Policies}
use Rattle.policy.specs.Lexing.{front_at, quoted_at, principal_in, word_at, word_in}
use Rattle.policy.specs.Reading.{policy_at, expression_by, gate_at, gate_by, members_by, head_at, opening_at, separator_at}
use Rattle.policy_eval.specs.Accepts.{Accepts}
use Rattle.policy_eval.specs.Signers.{signers_of}
use Rattle.channel.specs.Configuration.{Configuration}
use Rattle.rules.specs.declared.committed.CommittedBlock.{CommittedBlock}
use Rattle.rules.specs.declared.history.HistoryEntry.{HistoryEntry}
use Rattle.rules.specs.declared.row.Row.{Row}
use Rattle.rules.specs.State.{StateKey, State, key_cmp}
use Rattle.rules.specs.Candidate.{Candidate, opened, candidate_of}
use Rattle.rules.specs.Job.{Job}

-- ---- identities and policies

abbrev pub peer : List ℕ → List ℕ → Identity
peer org label = record { org = org; role = Peer; label = label }

abbrev pub p0 : Identity
p0 = peer (codes "Org1") (codes "p0")

abbrev pub p1 : Identity
p1 = peer (codes "Org1") (codes "p1")

-- of the other organization
abbrev pub q0 : Identity
q0 = peer (codes "Org2") (codes "q0")

abbrev pub a0 : Identity
a0 = record { org = codes "Org1"; role = Admin; label = codes "a0" }

abbrev pub peer_of : List ℕ → Tree
peer_of org = principal org wanted.Peer

abbrev pub both_of : Tree → Tree → Tree
both_of s t = gate 2 (more s (more t none))

abbrev pub either_peer : Tree
either_peer = gate 1 (more (peer_of (codes "Org1")) (more (peer_of (codes "Org2")) none))

abbrev pub both_peers : Tree
both_peers = both_of (peer_of (codes "Org1")) (peer_of (codes "Org2"))

abbrev pub both_peers_text : List ℕ
both_peers_text = codes "AND('Org1.peer','Org2.peer')"

abbrev pub first_peer_text : List ℕ
first_peer_text = codes "'Org1.peer'"

-- the texts are read once
pub both_peers_read : policy_at both_peers_text ≡ Ok both_peers
unfolding policy_at expression_by gate_at gate_by members_by head_at opening_at separator_at front_at quoted_at principal_in word_at word_in
both_peers_read = refl

pub first_peer_read : policy_at first_peer_text ≡ Ok (peer_of (codes "Org1"))
unfolding policy_at expression_by front_at quoted_at principal_in
first_peer_read = refl

abbrev pub broken_text : List ℕ
broken_text = codes "AND("

pub broken_read : policy_at broken_text ≡ Err syntax_fault
unfolding policy_at expression_by gate_at gate_by members_by head_at opening_at front_at word_at word_in
broken_read = refl

-- one byte, which begins no token
pub strange_byte_read : policy_at (255 ∷ []) ≡ Err syntax_fault
unfolding policy_at expression_by front_at word_at word_in
strange_byte_read = refl

-- ---- namespaces and keys

abbrev pub chaincode : List ℕ
chaincode = codes "cc"

-- another namespace
abbrev pub dd : List ℕ
dd = codes "dd"

-- a namespace without a definition
abbrev pub zz : List ℕ
zz = codes "zz"

abbrev pub a : List ℕ
a = codes "a"

abbrev pub c : List ℕ
c = codes "c"

abbrev pub k : List ℕ
k = codes "k"

-- ---- transactions of the chaincode cc

abbrev pub at : ℕ → ℕ → Version
at b i = record { block = b; tx = i }

abbrev pub read_at : List ℕ → Version → Read
read_at key v = record { key = key; version = Some v }

abbrev pub absent : List ℕ → Read
absent key = record { key = key; version = None }

abbrev pub found : List ℕ → Version → KeyVersion
found key v = record { key = key; version = v }

abbrev pub put : List ℕ → Write
put key = record { key = key; value = Some (codes "v") }

abbrev pub deleted : List ℕ → Write
deleted key = record { key = key; value = None }

-- both organizations from now on
abbrev pub policy_put : List ℕ → PolicyWrite
policy_put key = record { key = key; policy = Some both_peers_text }

abbrev pub policy_removed : List ℕ → PolicyWrite
policy_removed key = record { key = key; policy = None }

abbrev pub set_of : List ℕ → List Read → List Range → List Write → List PolicyWrite → NsSet
set_of name reads ranges writes policy_writes = record { name = name; reads = reads; ranges = ranges; writes = writes; policy_writes = policy_writes }

-- of no nonce and p0
abbrev pub an_id : List ℕ
an_id = tx_id_of [] (identity_bytes p0)

-- its id is that of its nonce and creator
abbrev pub over : List NsSet → Tx
over sets = record {
  channel = codes "ch";
  id = an_id;
  creator = p0;
  nonce = [];
  chaincode = chaincode;
  namespaces = sets;
  endorsements = [];
  signature = [];
}

abbrev pub tx : List Read → List Range → List Write → List PolicyWrite → Tx
tx reads ranges writes policy_writes = over (set_of chaincode reads ranges writes policy_writes ∷ [])

abbrev pub reading : List Read → Tx
reading reads = tx reads [] [] []

abbrev pub scanning : Range → Tx
scanning range = tx [] (range ∷ []) [] []

abbrev pub writing : List Write → Tx
writing writes = tx [] [] writes []

abbrev pub writes_k : Tx
writes_k = writing (put k ∷ [])

abbrev pub writing_policy : PolicyWrite → Tx
writing_policy w = tx [] [] [] (w ∷ [])

-- ---- candidates

abbrev pub one : Tx → Candidate
one t = opened t (p0 ∷ [])

abbrev pub both : Tx → Candidate
both t = opened t (p0 ∷ q0 ∷ [])

abbrev pub unendorsed : Tx → Candidate
unendorsed t = opened t []

abbrev pub any : Accepts
any = λ _ _ _. true

abbrev pub endorsed_by : List Identity → Tx → Tx
endorsed_by endorsers t = record t { endorsements = map (λ e. record { endorser = e; signature = [] }) endorsers }

-- with the signers of its endorsements
abbrev pub signed_by : List Identity → Tx → Candidate
signed_by endorsers t = opened t (signers_of any (endorsed_by endorsers t))

abbrev pub definitions_with : Tree → Policies
definitions_with policy = from_entries {R = bytes_cmp} ((chaincode, policy) ∷ [])

abbrev pub channel : Configuration
channel = record { name = codes "ch"; definitions = definitions_with either_peer; admin = None }

-- as the tests before the state leave it, where its id is new
abbrev pub judged : Tx → Candidate
judged t = candidate_of channel any true false (Some (item.Tx (endorsed_by (p0 ∷ []) t)))

-- ---- blocks

abbrev pub row_at : Version → Row
row_at v = record { value = codes "v"; version = v; policy = None }

abbrev pub rows_at_0 : List (List ℕ) → List (StateKey × Row)
rows_at_0 keys = map (λ key. ((chaincode, key), row_at (at 0 0))) keys

-- the state with these keys, written by transaction 0 of block 0
abbrev pub state_with : List (List ℕ) → State
state_with keys = from_entries {R = key_cmp} (rows_at_0 keys)

-- k has a policy that wants both organizations
abbrev pub guarded_state : State
guarded_state = from_entries {R = key_cmp} (((chaincode, k), record { value = codes "v"; version = at 0 0; policy = Some both_peers }) ∷ [])

abbrev pub block_on : ℕ → State → List Candidate → Job
block_on number state candidates = record { number = number; state = state; definitions = definitions_with either_peer; admin = None; candidates = candidates }

-- block 1 over these keys
abbrev pub block_over : List (List ℕ) → List Candidate → Job
block_over keys candidates = block_on 1 (state_with keys) candidates

-- any bytes and flags will do for a kept block
abbrev pub kept : CommittedBlock
kept = record { bytes = []; header_hash = replicate 32 1; commit_hash = replicate 32 5; version = V1; flags = [] }

-- of a transaction with that id
abbrev pub entry : Version → Option (List ℕ) → HistoryEntry
entry v value = record { version = v; id = an_id; value = value }

-- the block of the documentation's example: its fifth transaction reads what no other one writes
abbrev pub documentation_block : Job
documentation_block = block_over (codes "k1" ∷ codes "k2" ∷ codes "k3" ∷ codes "k4" ∷ codes "k5" ∷ []) (
    one (writing (put (codes "k1") ∷ put (codes "k2") ∷ []))
    ∷ one (tx (read_at (codes "k1") (at 0 0) ∷ []) [] (put (codes "k3") ∷ []) [])
    ∷ one (writing (put (codes "k2") ∷ []))
    ∷ one (tx (read_at (codes "k2") (at 0 0) ∷ []) [] (put (codes "k2") ∷ []) [])
    ∷ one (tx (read_at (codes "k5") (at 0 0) ∷ []) [] (put (codes "k6") ∷ []) [])
    ∷ [])
