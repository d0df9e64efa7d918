-- An open candidate that fails the endorsement rule has one endorsement fault.
use Rattle.std.proofs.Common.{◌≡◌, ℕ, true, not, List, Option, Some, None, is_some, refl, sym, ap, subst, ◌∙◌}
use Rattle.std.specs.List.{list_all}
use Rattle.std.specs.FinMap.{get}
use Rattle.transaction.specs.declared.identity.Identity.{Identity}
use Rattle.transaction.specs.declared.transaction.Tx.{Tx}
use Rattle.policy.specs.Tree.{Tree}
use Rattle.rules.specs.State.{StateKey, policy_in}
use Rattle.rules.specs.Effect.{written_keys}
use Rattle.rules.specs.Endorsement.{may_write}
use Rattle.rules.specs.Candidate.{is_defined, is_all_defined}
use Rattle.rules.specs.Job.{Job}
use Rattle.rules.specs.Fold.{running}
use Rattle.rules.proofs.Booleans.{both_true}
use Rattle.reasons.specs.declared.endorsement_fault.EndorsementFault.{EndorsementFault}
use Rattle.reasons.specs.declared.endorsement_fault.EndorsementFault.TheVariants.{Touched, Unsatisfied, ChaincodeUnsatisfied}
use Rattle.reasons.specs.declared.policy_owner.PolicyOwner.{PolicyOwner}
use Rattle.reasons.specs.declared.policy_owner.PolicyOwner.TheVariants.{OfKey, OfChaincode}
use Rattle.reasons.specs.First.{first_below}
use Rattle.reasons.specs.Shortfall.{shortfall_of}
use Rattle.reasons.specs.Endorsement.{first_barred, touches, Governs, IsEndorsementFault}
use Rattle.reasons.proofs.Lists.{some_is, some_and_none, found-all}

-- ---- some fault

there_if : {X : Type 0} (o : Option X) → is_some o ≡ true → (x : X) × (o ≡ Some x)
there_if None e = absurd cc
there_if (Some x) e = (x, refl)

governed : (j : Job) (k : StateKey) → is_defined j.definitions k.0 ≡ true → (owner : PolicyOwner) × (policy : Tree) × Governs j k owner policy
governed j k defined = by (policy_in j.state k) refl (there_if (get j.definitions k.0) defined)
  where
    by : (o : Option Tree) → policy_in j.state k ≡ o → (policy : Tree) × (get j.definitions k.0 ≡ Some policy) → (owner : PolicyOwner) × (policy : Tree) × Governs j k owner policy
    by (Some own) is named = (OfKey, own, is)
    by None is named = (OfChaincode, named.0, (is, named.1))

pub endorsement_fault_if : (j : Job) (i : ℕ) (tx : Tx) (signers : List Identity) → is_all_defined j.definitions tx ≡ true → (f : EndorsementFault) × IsEndorsementFault j i tx signers f
endorsement_fault_if j i tx signers defined =
    let both = both_true (is_defined j.definitions tx.chaincode) (list_all (λ k. is_defined j.definitions k.0) (written_keys tx)) defined in
    by both.0 both.1 (first_barred j i tx signers) refl
  where
    barred : (k : StateKey) → first_barred j i tx signers ≡ Some k → (owner : PolicyOwner) × (policy : Tree) × Governs j k owner policy → (o : Option ℕ) → first_below (touches j k) i ≡ o
        → (f : EndorsementFault) × IsEndorsementFault j i tx signers f
    barred k is g (Some h) touched = (Touched k.0 k.1 h, (is, touched))
    barred k is g None touched = (Unsatisfied k.0 k.1 g.0 (shortfall_of tx.endorsements signers g.1), (is, touched, g.2, refl))

    by : is_defined j.definitions tx.chaincode ≡ true → list_all (λ k. is_defined j.definitions k.0) (written_keys tx) ≡ true → (o : Option StateKey) → first_barred j i tx signers ≡ o
        → (f : EndorsementFault) × IsEndorsementFault j i tx signers f
    by named all (Some k) is =
        let here = found-all (λ x. not (may_write j.definitions j.state (running j i).touched signers x)) (λ x. is_defined j.definitions x.0) (written_keys tx) k all is in
        barred k is (governed j k here) (first_below (touches j k) i) refl
    by named all None is =
        let policy = there_if (get j.definitions tx.chaincode) named in
        (ChaincodeUnsatisfied tx.chaincode (shortfall_of tx.endorsements signers policy.0), (is, refl, policy.1, refl))

-- ---- and one alone

one_owner : (j : Job) (k : StateKey) (a b : PolicyOwner) (s t : Tree) → Governs j k a s → Governs j k b t → (a ≡ b) × (s ≡ t)
one_owner j k OfKey OfKey s t x y = (refl, some_is s t (sym x ∙ y))
one_owner j k OfKey OfChaincode s t x y = absurd (some_and_none s (sym x ∙ y.0))
one_owner j k OfChaincode OfKey s t x y = absurd (some_and_none t (sym y ∙ x.0))
one_owner j k OfChaincode OfChaincode s t x y = (refl, some_is s t (sym x.1 ∙ y.1))

module _ (j : Job) (i : ℕ) (tx : Tx) (signers : List Identity) where
  same_first : (k l : StateKey) → k ≡ l → first_below (touches j k) i ≡ first_below (touches j l) i
  same_first k l e = ap (λ (x : StateKey). first_below (touches j x) i) e

  pub one_endorsement_fault : (a b : EndorsementFault) → IsEndorsementFault j i tx signers a → IsEndorsementFault j i tx signers b → a ≡ b
  one_endorsement_fault (Touched n k p) (Touched m l q) x y =
      let same : (n, k) ≡ (m, l) = some_is (n, k) (m, l) (sym x.0 ∙ y.0) in
      let place : p ≡ q = some_is p q (sym x.1 ∙ same_first (n, k) (m, l) same ∙ y.1) in
      λ t. Touched (same t).0 (same t).1 (place t)
  one_endorsement_fault (Touched n k p) (Unsatisfied m l o lack) x y =
      let same : (n, k) ≡ (m, l) = some_is (n, k) (m, l) (sym x.0 ∙ y.0) in
      absurd (some_and_none p (sym x.1 ∙ same_first (n, k) (m, l) same ∙ y.1))
  one_endorsement_fault (Touched n k p) (ChaincodeUnsatisfied m lack) x y = absurd (some_and_none (n, k) (sym x.0 ∙ y.0))
  one_endorsement_fault (Unsatisfied n k o lack) (Touched m l q) x y =
      let same : (n, k) ≡ (m, l) = some_is (n, k) (m, l) (sym x.0 ∙ y.0) in
      absurd (some_and_none q (sym y.1 ∙ sym (same_first (n, k) (m, l) same) ∙ x.1))
  one_endorsement_fault (Unsatisfied n k o lack) (Unsatisfied m l o' lack') x y =
      let same : (n, k) ≡ (m, l) = some_is (n, k) (m, l) (sym x.0 ∙ y.0) in
      let both = one_owner j (n, k) o o' lack.policy lack'.policy x.2 (subst (λ (z : StateKey). Governs j z o' lack'.policy) (sym same) y.2) in
      let lacks : lack ≡ lack' = x.3 ∙ ap (shortfall_of tx.endorsements signers) both.1 ∙ sym y.3 in
      λ t. Unsatisfied (same t).0 (same t).1 (both.0 t) (lacks t)
  one_endorsement_fault (Unsatisfied n k o lack) (ChaincodeUnsatisfied m lack') x y = absurd (some_and_none (n, k) (sym x.0 ∙ y.0))
  one_endorsement_fault (ChaincodeUnsatisfied n lack) (Touched m l q) x y = absurd (some_and_none (m, l) (sym y.0 ∙ x.0))
  one_endorsement_fault (ChaincodeUnsatisfied n lack) (Unsatisfied m l o lack') x y = absurd (some_and_none (m, l) (sym y.0 ∙ x.0))
  one_endorsement_fault (ChaincodeUnsatisfied n lack) (ChaincodeUnsatisfied m lack') x y =
      let name : n ≡ m = x.1 ∙ sym y.1 in
      let same : lack.policy ≡ lack'.policy = some_is lack.policy lack'.policy (sym x.2 ∙ y.2) in
      let lacks : lack ≡ lack' = x.3 ∙ ap (shortfall_of tx.endorsements signers) same ∙ sym y.3 in
      λ t. ChaincodeUnsatisfied (name t) (lacks t)
