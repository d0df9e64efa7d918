-- Worked rows of what conflicts cost: each computes, and a wrong expectation is rejected.
use Rattle.std.proofs.Common.{◌≡◌, ◌<◌, ℕ, zero, suc, List, [], ◌∷◌, Option, Some, None, false, refl, arith}
use Rattle.std.specs.Prelude.{codes}
use Rattle.std.specs.List.Sorted.{IsStrictlySortedBy, IsSorted}
use Rattle.std.proofs.lemmas.List.Elements.{All-from_recursion}
use Rattle.policy.specs.Tree.{principal}
use Rattle.std.specs.Str.{bytes_eq}
use Rattle.policy.specs.declared.tree.PolicyRole.{PolicyRole}
use Rattle.policy.specs.declared.tree.PolicyRole.TheVariants.{Admin, Peer}
use Rattle.rules.specs.declared.flag.Flag.TheVariants.{Valid, EndorsementPolicyFailure, MvccReadConflict, PhantomReadConflict}
use Rattle.reasons.specs.declared.endorsement_fault.EndorsementFault.TheVariants.{Touched, Unsatisfied, ChaincodeUnsatisfied}
use Rattle.reasons.specs.declared.policy_owner.PolicyOwner.TheVariants.{OfKey, OfChaincode}
use Rattle.reasons.specs.declared.reason.Reason.{Reason}
use Rattle.reasons.specs.declared.reason.Reason.TheVariants.{NoFault, NoTransaction, NotEndorsed, ReadConflict, PhantomConflict}
use Rattle.reasons.specs.declared.shortfall.Shortfall.{Shortfall}
use Rattle.conflicts.specs.Conflict.{conflicts_of}
use Rattle.conflicts.specs.FlagCounts.{with_flag}
use Rattle.conflicts.specs.Lack.{lacks_of}
use Rattle.conflicts.specs.declared.key_counts.KeyCounts.{KeyCounts}
use Rattle.conflicts.specs.KeyCounts.{counts_of, total_of}
use Rattle.conflicts.specs.declared.chaincode_line.ChaincodeLine.{ChaincodeLine}
use Rattle.conflicts.specs.Chaincodes.{chaincode_cmp, AreChaincodes}
use Rattle.conflicts.specs.Laws.{total_where}
use Rattle.conflicts.specs.Ranking.{Line, IsRanking}

abbrev bank : List ℕ
bank = codes "bank"

abbrev cars : List ℕ
cars = codes "cars"

abbrev a : List ℕ
a = codes "a"

abbrev b : List ℕ
b = codes "b"

abbrev stale : List ℕ → List ℕ → Option ℕ → Reason
stale namespace key writer = ReadConflict (record { namespace = namespace; key = key; read = None; there = Some (record { block = 1; tx = 0 }); writer = writer })

abbrev phantom : List ℕ → List ℕ → Option ℕ → Reason
phantom namespace key writer = PhantomConflict (record { range = record { namespace = namespace; start = []; end = [] }; exhausted = false; key = key; read = None; there = None; writer = writer })

abbrev lack : Shortfall
lack = record { policy = principal (codes "Org1") Peer; signers = []; refused = []; missing = Some (record { org = codes "Org1"; role = Peer }); another_order = false }

-- two blocks: in the first, transactions 1 and 2 read what 0 wrote
abbrev reasons : List Reason
reasons =
    NoFault ∷ stale bank b (Some 0) ∷ stale bank b (Some 0) ∷ phantom cars a None ∷ NotEndorsed (Touched bank a 0)
    ∷ NoTransaction ∷ stale bank b None ∷ NotEndorsed (Unsatisfied cars a OfKey lack) ∷ NotEndorsed (Unsatisfied cars b OfChaincode lack) ∷ NotEndorsed (ChaincodeUnsatisfied cars lack) ∷ phantom bank a (Some 3) ∷ []

-- of three reads, two were spoilt in their own block
pub read_thrice : counts_of (bank, b) (conflicts_of reasons) ≡ record { stale_reads = 3; phantoms = 0; own_policy = 0; policy_touched = 0; in_block = 2 }
read_thrice = refl

-- a policy that was written is of the block, and the writer that a phantom names too
pub of_its_block : counts_of (bank, a) (conflicts_of reasons) ≡ record { stale_reads = 0; phantoms = 1; own_policy = 0; policy_touched = 1; in_block = 2 }
of_its_block = refl

-- neither a phantom without a writer nor a key's own policy is
pub of_no_block : counts_of (cars, a) (conflicts_of reasons) ≡ record { stale_reads = 0; phantoms = 1; own_policy = 1; policy_touched = 0; in_block = 0 }
of_no_block = refl

-- the policy of a chaincode is no key's
pub chaincodes_are_to_blame : total_of (counts_of (cars, b) (conflicts_of reasons)) ≡ 0
chaincodes_are_to_blame = refl

-- the same key of another chaincode is another
pub other_chaincode : total_of (counts_of (codes "cab", b) (conflicts_of reasons)) ≡ 0
other_chaincode = refl

pub one_is_valid : with_flag Valid reasons ≡ 1
one_is_valid = refl

pub three_are_stale : with_flag MvccReadConflict reasons ≡ 3
three_are_stale = refl

pub two_are_phantoms : with_flag PhantomReadConflict reasons ≡ 2
two_are_phantoms = refl

pub four_lack_endorsements : with_flag EndorsementPolicyFailure reasons ≡ 4
four_lack_endorsements = refl

abbrev lines : List Line
lines =
    ((bank, b), record { stale_reads = 3; phantoms = 0; own_policy = 0; policy_touched = 0; in_block = 2 })
    ∷ ((bank, a), record { stale_reads = 0; phantoms = 1; own_policy = 0; policy_touched = 1; in_block = 2 })
    ∷ ((cars, a), record { stale_reads = 0; phantoms = 1; own_policy = 1; policy_touched = 0; in_block = 0 }) ∷ []

-- most first; of two keys with two each, the one that is first in order
pub most_first : IsRanking (conflicts_of reasons) lines
unfolding IsStrictlySortedBy
most_first = record {
  counts = All-from_recursion (λ (l : Line). (l.1 ≡ counts_of l.0 (conflicts_of reasons)) × (0 < total_of l.1)) lines ((refl, omega arith), ((refl, omega arith), ((refl, omega arith), tt)));
  all = refl;
  order = ((refl, (refl, tt)), ((refl, tt), (tt, tt)));
}

-- ---- whose endorsements were missing

abbrev missing : List ℕ → PolicyRole → Shortfall
missing org role = record { policy = principal org role; signers = []; refused = []; missing = Some (record { org = org; role = role }); another_order = false }

abbrev deal : List ℕ
deal = codes "deal"

abbrev of_peer : List ℕ → List ℕ → Reason
of_peer chaincode org = NotEndorsed (ChaincodeUnsatisfied chaincode (missing org Peer))

abbrev unendorsed : List Reason
unendorsed =
    of_peer cars (codes "Org1") ∷ of_peer cars (codes "Org2") ∷ NotEndorsed (Unsatisfied cars b OfChaincode (missing (codes "Org2") Peer)) ∷ NoFault
    ∷ NotEndorsed (ChaincodeUnsatisfied bank (missing (codes "Org1") Admin)) ∷ NotEndorsed (Unsatisfied bank a OfKey (missing (codes "Org1") Admin))
    ∷ NotEndorsed (Touched bank a 0) ∷ stale bank b None ∷ NotEndorsed (Unsatisfied bank a OfChaincode (missing (codes "Org1") Admin))
    ∷ of_peer deal (codes "Org3") ∷ of_peer deal (codes "Org2") ∷ []

abbrev by_own_policy : ℕ → KeyCounts
by_own_policy n = record { stale_reads = 0; phantoms = 0; own_policy = n; policy_touched = 0; in_block = 0 }

abbrev missing_lines : List Line
missing_lines =
    ((bank, codes "Org1.admin"), by_own_policy 2) ∷ ((cars, codes "Org2.peer"), by_own_policy 2) ∷ ((cars, codes "Org1.peer"), by_own_policy 1)
    ∷ ((deal, codes "Org2.peer"), by_own_policy 1) ∷ ((deal, codes "Org3.peer"), by_own_policy 1) ∷ []

-- most first, and of two with as many the chaincode that is first in order; neither a key's own policy nor one that was
-- touched bars a chaincode's transaction
pub missing_most : IsRanking (lacks_of unendorsed) missing_lines
unfolding IsStrictlySortedBy
missing_most = record {
  counts = All-from_recursion (λ (l : Line). (l.1 ≡ counts_of l.0 (lacks_of unendorsed)) × (0 < total_of l.1)) missing_lines ((refl, omega arith), ((refl, omega arith), ((refl, omega arith), ((refl, omega arith), ((refl, omega arith), tt)))));
  all = refl;
  order = ((refl, (refl, (refl, (refl, tt)))), ((refl, (refl, (refl, tt))), ((refl, (refl, tt)), ((refl, tt), (tt, tt)))));
}

abbrev chaincodes : List ChaincodeLine
chaincodes =
    record { transactions = 3; most_missing = ((cars, codes "Org2.peer"), by_own_policy 2) } ∷ record { transactions = 2; most_missing = ((bank, codes "Org1.admin"), by_own_policy 2) }
    ∷ record { transactions = 2; most_missing = ((deal, codes "Org2.peer"), by_own_policy 1) } ∷ []

in_order : IsSorted chaincode_cmp chaincodes
in_order zero d l h = refl
in_order (suc zero) d l h = refl
in_order (suc (suc k)) d l h = absurd (omega (arith, h))

-- Most first: cars before bank, which is missing one principal as often. Of two with as many the first in order: bank
-- before deal. Of cars most are missing Org2's peer, though Org1's comes before it; of deal as many are missing each,
-- and the first is listed. Each chaincode is listed once.
pub worst_chaincodes : AreChaincodes (lacks_of unendorsed) chaincodes
worst_chaincodes = record {
  ranking = missing_lines;
  ranked = missing_most;
  each = record { moves = (0, 1) ∷ []; below = (omega arith, omega arith, tt); is = refl };
  order = in_order;
}

-- the lines have together what the reasons state
pub three_in_lines : total_where (λ k. bytes_eq k.0 cars) missing_lines ≡ 3
three_in_lines = refl
