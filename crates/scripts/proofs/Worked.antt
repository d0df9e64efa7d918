-- Rows worked by hand, which compute.
use Rattle.std.proofs.Common.{◌≡◌, ℕ, List, [], ◌∷◌, ◌++◌, true, false, Some, None, refl}
use Rattle.std.specs.Prelude.{codes}
use Rattle.std.specs.Prelude.{replicate}
use Rattle.hex.proofs.OnLiterals.{hex_on_literals}
use Rattle.transaction.specs.declared.block_version.BlockVersion.TheVariants.{V1, V2}
use Rattle.transaction.specs.declared.identity.Identity.{Identity}
use Rattle.transaction.specs.declared.identity.Role.TheVariants.{Client, Peer}
use Rattle.transaction.specs.declared.transaction.NsSet.{NsSet}
use Rattle.key_book.specs.Entry as book
use Rattle.scripts.specs.declared.draft.Content.TheVariants as content
use Rattle.scripts.specs.declared.saying.Entry.TheVariants as entry
use Rattle.scripts.specs.declared.saying.Saying.TheVariants as saying
use Rattle.scripts.specs.declared.script.Item.TheVariants.{Raw, Drafted}
use Rattle.scripts.specs.Draft.{Draft}
use Rattle.scripts.specs.Limits.{with_one}
use Rattle.scripts.specs.Numbers.{number_of}
use Rattle.scripts.specs.Says.{says}
use Rattle.scripts.specs.Script.{empty_namespace, with_endorser, with_raw, with_draft, script_of}

client : Identity
client = record { org = codes "Org1"; role = Client; label = codes "c0" }

peer : Identity
peer = record { org = codes "Org1"; role = Peer; label = codes "p0" }

keys : List book.Entry
keys = record { identity = client; key = 0 ∷ [] } ∷ record { identity = peer; key = 1 ∷ [] } ∷ []

-- one line above another
infixr 5 ◌/◌
◌/◌ : List ℕ → List ℕ → List ℕ
line / more = line ++ 10 ∷ more

abbrev begins : List ℕ
begins = codes "tx Org1:client:c0 n0 cc"

-- what a transaction that begins so has
said : ℕ → List NsSet → List Identity → Draft
said line namespaces endorsers =
    record { line = line; creator = client; nonce = codes "n0"; chaincode = codes "cc"; content = content.Tx namespaces; endorsers = endorsers }

-- ---- whole scripts

a_write_and_a_policy : script_of V1 keys (begins / codes "ns cc" / codes "write k1 v1" / codes "policy k1 AND('Org1.peer','Org2.peer')" / codes "endorse Org1:peer:p0")
    ≡ record {
      items = Drafted (said 1 (record (empty_namespace (codes "cc")) {
        writes = record { key = codes "k1"; value = Some (codes "v1") } ∷ [];
        policy_writes = record { key = codes "k1"; policy = Some (codes "AND('Org1.peer','Org2.peer')") } ∷ [];
      } ∷ []) (peer ∷ [])) ∷ [];
      fault = None;
    }
unfolding client peer keys ◌/◌ said
a_write_and_a_policy = refl

-- a result belongs to the last range
two_ranges : script_of V1 keys (begins / codes "ns cc" / codes "range a b all" / codes "range % % part" / codes "result k 1 2")
    ≡ record {
      items = Drafted (said 1 (record (empty_namespace (codes "cc")) {
        ranges = record { start = codes "a"; end = codes "b"; exhausted = true; results = [] }
            ∷ record { start = []; end = []; exhausted = false; results = record { key = codes "k"; version = record { block = 1; tx = 2 } } ∷ [] } ∷ [];
      } ∷ []) []) ∷ [];
      fault = None;
    }
unfolding client peer keys ◌/◌ said
two_ranges = refl

-- a namespace goes on behind an endorser, and a repeated name begins one more
endorsed_between : script_of V1 keys (begins / codes "ns cc" / codes "endorse Org1:peer:p0" / codes "read k absent" / codes "ns cc" / codes "delete k")
    ≡ record {
      items = Drafted (said 1 (record (empty_namespace (codes "cc")) { reads = record { key = codes "k"; version = None } ∷ [] }
          ∷ record (empty_namespace (codes "cc")) { writes = record { key = codes "k"; value = None } ∷ [] } ∷ []) (peer ∷ [])) ∷ [];
      fault = None;
    }
unfolding client peer keys ◌/◌ said
endorsed_between = refl

nothing_at_all : script_of V1 keys [] ≡ record { items = []; fault = None }
unfolding client peer keys
nothing_at_all = refl

-- the number of its own line
later_line : script_of V1 keys (codes "# c" / codes "raw" / begins) ≡ record { items = Raw [] ∷ Drafted (said 3 [] []) ∷ []; fault = None }
unfolding client peer keys ◌/◌ said hex_on_literals
later_line = refl

-- ---- the first faulty line, and what ended before it

no_transaction : script_of V1 keys (codes "# c" / codes "ns cc") ≡ record { items = []; fault = Some 2 }
unfolding client peer keys ◌/◌
no_transaction = refl

no_namespace : script_of V1 keys (begins / codes "write k v") ≡ record { items = []; fault = Some 2 }
unfolding client peer keys ◌/◌
no_namespace = refl

-- the range is one of another namespace
no_range : script_of V1 keys (begins / codes "ns cc" / codes "range a b all" / codes "ns dd" / codes "result a 0 0") ≡ record { items = []; fault = Some 5 }
unfolding client peer keys ◌/◌
no_range = refl

unknown_creator : script_of V1 keys (codes "tx Org2:client:c0 n0 cc") ≡ record { items = []; fault = Some 1 }
unfolding client peer keys
unknown_creator = refl

unknown_endorser : script_of V1 keys (begins / codes "endorse Org1:peer:p1") ≡ record { items = []; fault = Some 2 }
unfolding client peer keys ◌/◌
unknown_endorser = refl

-- a raw transaction ends the one before it, and nothing is open behind it
raw_between : script_of V1 keys (begins / codes "raw" / codes "endorse Org1:peer:p0") ≡ record { items = Drafted (said 1 [] []) ∷ Raw [] ∷ []; fault = Some 3 }
unfolding client peer keys ◌/◌ said hex_on_literals
raw_between = refl

-- so does a faulty `tx` line, and a faulty line of the transaction doesn't
faulty_begin : script_of V1 keys (begins / codes "tx") ≡ record { items = Drafted (said 1 [] []) ∷ []; fault = Some 2 }
unfolding client peer keys ◌/◌ said
faulty_begin = refl

faulty_line : script_of V1 keys (begins / codes "txt") ≡ record { items = []; fault = Some 2 }
unfolding client peer keys ◌/◌ said
faulty_line = refl

-- ---- updates

-- of the same channel, book and endorser
begins_update : List ℕ
begins_update = codes "update Org1:client:c0 n1 cc OR('Org2.peer')"

update_said : ℕ → List Identity → Draft
update_said line endorsers =
    record { line = line; creator = client; nonce = codes "n1"; chaincode = codes "cc"; content = content.Update (codes "OR('Org2.peer')"); endorsers = endorsers }

an_update : script_of V2 keys (begins_update / codes "endorse Org1:peer:p0") ≡ record { items = Drafted (update_said 1 (peer ∷ [])) ∷ []; fault = None }
unfolding client peer keys ◌/◌ begins_update update_said
an_update = refl

-- each ends what is before it
among_transactions : script_of V2 keys (begins / begins_update / begins) ≡ record { items = Drafted (said 1 [] []) ∷ Drafted (update_said 2 []) ∷ Drafted (said 3 [] []) ∷ []; fault = None }
unfolding client peer keys ◌/◌ begins_update update_said said
among_transactions = refl

no_update_in_version_1 : script_of V1 keys (begins / begins_update) ≡ record { items = []; fault = Some 2 }
unfolding client peer keys ◌/◌ begins_update
no_update_in_version_1 = refl

-- an update has no namespaces
namespace_of_an_update : script_of V2 keys (begins_update / codes "ns cc") ≡ record { items = []; fault = Some 2 }
unfolding client peer keys ◌/◌ begins_update
namespace_of_an_update = refl

write_of_an_update : script_of V2 keys (begins_update / codes "write k v") ≡ record { items = []; fault = Some 2 }
unfolding client peer keys ◌/◌ begins_update
write_of_an_update = refl

faulty_update : script_of V2 keys (begins / codes "update") ≡ record { items = Drafted (said 1 [] []) ∷ []; fault = Some 2 }
unfolding client peer keys ◌/◌ said
faulty_update = refl

-- the text keeps the spaces inside, and may be no policy
update_line : says V2 (codes "update  Org1:client:c0  n0  cc  AND(  x") ≡ Some (saying.Begins client (codes "n0") (codes "cc") (content.Update (codes "AND(  x")))
unfolding client
update_line = refl

no_text : says V2 (codes "update Org1:client:c0 n0 cc") ≡ None
no_text = refl

-- ---- lines

raw_bytes : says V1 (codes "raw 0aFF") ≡ Some (saying.Raw (10 ∷ 255 ∷ []))
unfolding hex_on_literals
raw_bytes = refl

odd_digits : says V1 (codes "raw 0") ≡ None
unfolding hex_on_literals
odd_digits = refl

-- the text keeps the spaces inside
spaced_policy : says V1 (codes "policy  k%20  a  b") ≡ Some (saying.Adds (entry.Policy (record { key = codes "k "; policy = Some (codes "a  b") })))
spaced_policy = refl

no_policy_text : says V1 (codes "policy k") ≡ None
no_policy_text = refl

removed_policy : says V1 (codes "nopolicy k") ≡ Some (saying.Adds (entry.Policy (record { key = codes "k"; policy = None })))
removed_policy = refl

empty_value : says V1 (codes "write k %") ≡ Some (saying.Adds (entry.Write (record { key = codes "k"; value = Some [] })))
empty_value = refl

empty_key : says V1 (codes "write % v") ≡ None
empty_key = refl

third_part : says V1 (codes "delete k v") ≡ None
third_part = refl

long_nonce : says V1 (codes "tx Org1:client:c0 " ++ (replicate 256 110 ++ codes " cc")) ≡ None
long_nonce = refl

-- the transaction's place has 32 bits
too_great_place : says V1 (codes "result k 0 4294967296") ≡ None
too_great_place = refl

greatest_place : says V1 (codes "result k 0 4294967295") ≡ Some (saying.Adds (entry.Found (record { key = codes "k"; version = record { block = 0; tx = 4294967295 } })))
greatest_place = refl

-- ---- numbers

greatest : number_of 64 (codes "18446744073709551615") ≡ Some 18446744073709551615
greatest = refl

too_great : number_of 64 (codes "18446744073709551616") ≡ None
too_great = refl

too_great_for_its_field : number_of 32 (codes "4294967296") ≡ None
too_great_for_its_field = refl

twenty_digits : number_of 32 (codes "00000000000000000007") ≡ Some 7
twenty_digits = refl

too_many_digits : number_of 32 (codes "000000000000000000007") ≡ None
too_many_digits = refl

signed : number_of 32 (codes "+7") ≡ None
signed = refl

-- ---- lists

full : with_one {A = ℕ} 2 (1 ∷ 2 ∷ []) 3 ≡ None
full = refl

one_more : with_one {A = ℕ} 2 (1 ∷ []) 2 ≡ Some (1 ∷ 2 ∷ [])
one_more = refl

sixty_five_endorsers : with_endorser peer (said 1 [] (replicate 64 peer)) ≡ None
unfolding client peer said
sixty_five_endorsers = refl

sixty_four_endorsers : with_endorser peer (said 1 [] (replicate 63 peer)) ≡ Some (said 1 [] (replicate 64 peer))
unfolding client peer said
sixty_four_endorsers = refl

one_raw_more : with_raw [] (record { items = replicate 4096 (Raw []); drafting = None }) ≡ None
one_raw_more = refl

full_block : with_draft keys (said 1 [] []) (record { items = replicate 4096 (Raw []); drafting = None }) ≡ None
unfolding client peer keys said
full_block = refl
