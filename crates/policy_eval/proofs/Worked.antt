-- Worked rows of the definitions.
use Rattle.std.proofs.Common.{◌≡◌, ℕ, false, List, [], ◌∷◌, ◌++◌, Some, refl}
use Rattle.std.specs.Prelude.{codes, replicate}
use Rattle.std.specs.Str.{bytes_eq}
use Rattle.transaction.specs.declared.identity.Identity.{Identity}
use Rattle.transaction.specs.declared.identity.Role.{Role}
use Rattle.transaction.specs.declared.identity.Role.TheVariants.{Peer, Admin}
use Rattle.transaction.specs.declared.transaction.Endorsement.{Endorsement}
use Rattle.transaction.specs.declared.transaction.Tx.{Tx}
use Rattle.transaction.specs.declared.update.Update.{Update}
use Rattle.policy.specs.declared.tree.PolicyRole.TheVariants as wanted
use Rattle.policy.specs.Tree.{Tree, Trees, principal, gate, none, more}
use Rattle.policy_eval.specs.Accepts.{Accepts}
use Rattle.policy_eval.specs.Signers.{signers_of}
use Rattle.policy_eval.specs.UpdateSigners.{update_signers_of}
use Rattle.policy_eval.specs.Evaluating.{is_satisfied}
use Rattle.policy_eval.specs.Assignment.{assignment_of}

abbrev identity : List ℕ → Role → List ℕ → Identity
identity org role label = record { org = org; role = role; label = label }

abbrev p0 : Identity
p0 = identity (codes "Org1") Peer (codes "p0")

abbrev p1 : Identity
p1 = identity (codes "Org1") Peer (codes "p1")

abbrev admin : Identity
admin = identity (codes "Org1") Admin (codes "a")

abbrev peer : List ℕ → Tree
peer org = principal org wanted.Peer

abbrev two : Tree → Tree → Trees
two s t = more s (more t none)

-- ---- AND('Org1.peer','Org1.peer')

abbrev two_peers : Tree
two_peers = gate 2 (two (peer (codes "Org1")) (peer (codes "Org1")))

pub one_signer_fails : is_satisfied two_peers (p0 ∷ []) ≡ false
one_signer_fails = refl

pub two_signers_hold : assignment_of two_peers (p0 ∷ p1 ∷ []) ≡ Some ((0, 0) ∷ (1, 1) ∷ [])
two_signers_hold = refl

-- ---- AND('Org1.member','Org1.admin')

abbrev member_and_admin : Tree
member_and_admin = gate 2 (two (principal (codes "Org1") wanted.Member) (principal (codes "Org1") wanted.Admin))

-- the member takes the admin, and no admin is left
pub admin_first_fails : is_satisfied member_and_admin (admin ∷ p0 ∷ []) ≡ false
admin_first_fails = refl

pub peer_first_holds : assignment_of member_and_admin (p0 ∷ admin ∷ []) ≡ Some ((0, 0) ∷ (1, 1) ∷ [])
peer_first_holds = refl

-- ---- gates in gates

-- OR(AND('Org1.peer','Org2.peer'),'Org1.peer'): the gate that fails gives its signer back
pub failed_gate_gives_back : assignment_of (gate 1 (two (gate 2 (two (peer (codes "Org1")) (peer (codes "Org2")))) (peer (codes "Org1")))) (p0 ∷ []) ≡ Some ((2, 0) ∷ [])
failed_gate_gives_back = refl

-- AND(OR('Org1.peer','Org1.peer'),'Org1.peer'): the inner gate takes both
pub every_member_is_evaluated : is_satisfied (gate 2 (two (gate 1 (two (peer (codes "Org1")) (peer (codes "Org1")))) (peer (codes "Org1")))) (p0 ∷ p1 ∷ []) ≡ false
every_member_is_evaluated = refl

-- OutOf(2,AND('A.peer','C.peer','B.peer'),'A.peer','C.peer')
abbrev nested : Tree
nested = gate 2 (more (gate 3 (more (peer (codes "A")) (two (peer (codes "C")) (peer (codes "B"))))) (two (peer (codes "A")) (peer (codes "C"))))

abbrev of_org : List ℕ → Identity
of_org org = identity org Peer (codes "p")

pub nested_holds : assignment_of nested (of_org (codes "A") ∷ of_org (codes "C") ∷ []) ≡ Some ((3, 0) ∷ (4, 1) ∷ [])
nested_holds = refl

-- and one signer more makes it fail
pub nested_fails : is_satisfied nested (of_org (codes "A") ∷ of_org (codes "C") ∷ of_org (codes "B") ∷ []) ≡ false
nested_fails = refl

-- ---- signers

abbrev endorsed_tx : List Endorsement → Tx
endorsed_tx endorsements = record {
  channel = codes "c";
  id = replicate 64 0;
  creator = identity (codes "A") Admin [];
  nonce = [];
  chaincode = codes "k";
  namespaces = [];
  endorsements = endorsements;
  signature = [];
}

abbrev endorsed : Identity → List ℕ → Endorsement
endorsed endorser signature = record { endorser = endorser; signature = signature }

-- a verifier that accepts the signature 1 alone
abbrev accepts_one : Accepts
accepts_one who message signature = bytes_eq signature (1 ∷ [])

pub counts_once : signers_of accepts_one (endorsed_tx (endorsed p0 (1 ∷ []) ∷ endorsed p0 (1 ∷ []) ∷ [])) ≡ p0 ∷ []
counts_once = refl

-- refused at first, and accepted behind another one
pub counts_where_accepted : signers_of accepts_one (endorsed_tx (endorsed p0 (0 ∷ []) ∷ endorsed p1 (1 ∷ []) ∷ endorsed p0 (1 ∷ []) ∷ [])) ≡ p1 ∷ p0 ∷ []
counts_where_accepted = refl

-- accepted at first, and once more behind another one
pub counts_at_first : signers_of accepts_one (endorsed_tx (endorsed p0 (1 ∷ []) ∷ endorsed p1 (1 ∷ []) ∷ endorsed p0 (1 ∷ []) ∷ [])) ≡ p0 ∷ p1 ∷ []
counts_at_first = refl

pub refused_is_no_signer : signers_of accepts_one (endorsed_tx (endorsed p0 (0 ∷ []) ∷ [])) ≡ []
refused_is_no_signer = refl

-- channel, id, creator, nonce, chaincode, no namespaces; then the endorser B, a peer, p
abbrev message_of_b : List ℕ
message_of_b = (1 ∷ 99 ∷ replicate 64 0) ++ (1 ∷ 65 ∷ 0 ∷ 0 ∷ 0 ∷ 1 ∷ 107 ∷ 0 ∷ 0 ∷ 1 ∷ 66 ∷ 2 ∷ 1 ∷ 112 ∷ [])

abbrev accepts_that_message : Accepts
accepts_that_message who message signature = bytes_eq message message_of_b

-- each endorser signs the body and its own bytes
pub signs_its_own_bytes : signers_of accepts_that_message (endorsed_tx (endorsed (of_org (codes "A")) [] ∷ endorsed (of_org (codes "B")) [] ∷ [])) ≡ of_org (codes "B") ∷ []
signs_its_own_bytes = refl

-- ---- signers of an update

abbrev endorsed_update : List Endorsement → Update
endorsed_update endorsements = record {
  channel = codes "c";
  id = replicate 64 0;
  creator = identity (codes "A") Admin [];
  nonce = [];
  namespace = codes "k";
  policy = codes "OR";
  endorsements = endorsements;
  signature = [];
}

pub counts_once_on_an_update : update_signers_of accepts_one (endorsed_update (endorsed p0 (1 ∷ []) ∷ endorsed p1 (0 ∷ []) ∷ endorsed p0 (1 ∷ []) ∷ [])) ≡ p0 ∷ []
counts_once_on_an_update = refl

-- the byte 0, channel, id, creator, nonce, namespace, policy; then the endorser B, a peer, p
abbrev update_message_of_b : List ℕ
update_message_of_b = (0 ∷ 1 ∷ 99 ∷ replicate 64 0) ++ (1 ∷ 65 ∷ 0 ∷ 0 ∷ 0 ∷ 1 ∷ 107 ∷ 0 ∷ 2 ∷ 79 ∷ 82 ∷ 1 ∷ 66 ∷ 2 ∷ 1 ∷ 112 ∷ [])

abbrev accepts_that_update : Accepts
accepts_that_update who message signature = bytes_eq message update_message_of_b

pub signs_its_own_bytes_on_an_update : update_signers_of accepts_that_update (endorsed_update (endorsed (of_org (codes "A")) [] ∷ endorsed (of_org (codes "B")) [] ∷ [])) ≡ of_org (codes "B") ∷ []
signs_its_own_bytes_on_an_update = refl
