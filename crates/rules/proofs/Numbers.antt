-- Flags and their numbers lead to each other.
use Rattle.std.proofs.Common.{◌≡◌, ℕ, Bool, true, false, cond, eqb, Option, Some, None, refl, sym, ap, ◌∙◌}
use Rattle.std.proofs.lemmas.Bool.{eqb-true}
use Rattle.rules.specs.declared.flag.Flag.{Flag}
use Rattle.rules.specs.declared.flag.Flag.TheVariants.{Valid, BadPayload, BadCreatorSignature, InvalidConfigTransaction, BadProposalTxId, DuplicateTxId, EndorsementPolicyFailure, MvccReadConflict, PhantomReadConflict, TargetChainNotFound, BadRwset, InvalidChaincode}
use Rattle.rules.specs.Flags.{number_of, flag_numbered}

pub flag_back : (f : Flag) → flag_numbered (number_of f) ≡ Some f
flag_back Valid = refl
flag_back BadPayload = refl
flag_back BadCreatorSignature = refl
flag_back InvalidConfigTransaction = refl
flag_back BadProposalTxId = refl
flag_back DuplicateTxId = refl
flag_back EndorsementPolicyFailure = refl
flag_back MvccReadConflict = refl
flag_back PhantomReadConflict = refl
flag_back TargetChainNotFound = refl
flag_back BadRwset = refl
flag_back InvalidChaincode = refl

same_flag : (f g : Flag) → Some f ≡ Some g → f ≡ g
same_flag f g e = cc

-- the number is that of this flag, or another one is asked for
asked : (n : ℕ) (f g : Flag) (rest : Option Flag) (b : Bool) → eqb n (number_of g) ≡ b → (rest ≡ Some f → number_of f ≡ n) → cond b (Some g) rest ≡ Some f → number_of f ≡ n
asked n f g rest true here others e = ap number_of (sym (same_flag g f e)) ∙ sym (eqb-true n (number_of g) here)
asked n f g rest false here others e = others e

none_asked : (n : ℕ) (f : Flag) → None ≡ Some f → number_of f ≡ n
none_asked n f e = absurd cc

pub number_back : (n : ℕ) (f : Flag) → flag_numbered n ≡ Some f → number_of f ≡ n
number_back n f =
    asked n f Valid _ (eqb n 0) refl
    (asked n f BadPayload _ (eqb n 2) refl
    (asked n f BadCreatorSignature _ (eqb n 4) refl
    (asked n f InvalidConfigTransaction _ (eqb n 6) refl
    (asked n f BadProposalTxId _ (eqb n 8) refl
    (asked n f DuplicateTxId _ (eqb n 9) refl
    (asked n f EndorsementPolicyFailure _ (eqb n 10) refl
    (asked n f MvccReadConflict _ (eqb n 11) refl
    (asked n f PhantomReadConflict _ (eqb n 12) refl
    (asked n f TargetChainNotFound _ (eqb n 14) refl
    (asked n f BadRwset _ (eqb n 22) refl
    (asked n f InvalidChaincode _ (eqb n 25) refl (none_asked n f))))))))))))
