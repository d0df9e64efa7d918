-- Sums over flags, and over two parts of a chain.
use Rattle.std.proofs.Common.{◌≡◌, ℕ, ◌+◌, Bool, true, false, ◌&&◌, cond, List, [], ◌∷◌, ◌++◌, length, refl, ap, ◌∙◌, arith}
use Rattle.std.specs.Prelude.{◌==◌}
use Rattle.std.specs.List.{count_by, sum_by}
use Rattle.std.proofs.lemmas.List.Elements.{filter_map-append}
use Rattle.std.proofs.lemmas.List.Sums.{sum_by-append, sum_by-cons}
use Rattle.rules.specs.declared.flag.Flag.{Flag}
use Rattle.rules.specs.declared.flag.Flag.TheVariants.{Valid, BadPayload, BadCreatorSignature, InvalidConfigTransaction, BadProposalTxId, DuplicateTxId, EndorsementPolicyFailure, MvccReadConflict, PhantomReadConflict, TargetChainNotFound, BadRwset, InvalidChaincode}
use Rattle.rules.specs.Flags.{number_of}
use Rattle.rules.specs.State.{StateKey, is_same_key}
use Rattle.reasons.specs.declared.reason.Reason.{Reason}
use Rattle.reasons.specs.Reason.{flag_of}
use Rattle.conflicts.specs.declared.conflict.Conflict.{Conflict}
use Rattle.conflicts.specs.declared.kind.Kind.TheVariants.{StaleRead, Phantom, OwnPolicy, PolicyTouched}
use Rattle.conflicts.specs.Conflict.{conflict_of, conflicts_of}
use Rattle.conflicts.specs.FlagCounts.{with_flag}
use Rattle.conflicts.specs.declared.kind.Kind.{Kind}
use Rattle.conflicts.specs.KeyCounts.{is_same_kind, is_of, is_in_block, counts_of, total_of}
use Rattle.conflicts.specs.Laws.{all_flags, together}

both : {X : Type 0} (p : X → Bool) (xs ys : List X) → count_by p (xs ++ ys) ≡ count_by p xs + count_by p ys
both p xs ys = sum_by-append (λ x. cond (p x) 1 0) xs ys

pub flags_of_two : (first second : List Reason) (flag : Flag) → with_flag flag (first ++ second) ≡ with_flag flag first + with_flag flag second
flags_of_two first second flag = both (λ r. number_of (flag_of r) == number_of flag) first second

keys_of_two : (k : StateKey) (xs ys : List Conflict) → counts_of k (xs ++ ys) ≡ together (counts_of k xs) (counts_of k ys)
keys_of_two k xs ys = λ i. record {
  stale_reads = (both (is_of k StaleRead) xs ys) i;
  phantoms = (both (is_of k Phantom) xs ys) i;
  own_policy = (both (is_of k OwnPolicy) xs ys) i;
  policy_touched = (both (is_of k PolicyTouched) xs ys) i;
  in_block = (both (is_in_block k) xs ys) i;
}

pub conflicts_of_two : (first second : List Reason) (k : StateKey)
    → counts_of k (conflicts_of (first ++ second)) ≡ together (counts_of k (conflicts_of first)) (counts_of k (conflicts_of second))
conflicts_of_two first second k =
    ap (counts_of k) (filter_map-append conflict_of first second) ∙ keys_of_two k (conflicts_of first) (conflicts_of second)

-- ---- each transaction has one flag

abbrev one_flag : Flag → Flag → ℕ
one_flag given flag = cond (number_of given == number_of flag) 1 0

one : (given : Flag) → sum_by (one_flag given) all_flags ≡ 1
one Valid = refl
one BadPayload = refl
one BadCreatorSignature = refl
one InvalidConfigTransaction = refl
one BadProposalTxId = refl
one DuplicateTxId = refl
one EndorsementPolicyFailure = refl
one MvccReadConflict = refl
one PhantomReadConflict = refl
one TargetChainNotFound = refl
one BadRwset = refl
one InvalidChaincode = refl

add : (f g : Flag → ℕ) (flags : List Flag) → sum_by (λ flag. f flag + g flag) flags ≡ sum_by f flags + sum_by g flags
add f g [] = refl
add f g (x ∷ xs) =
    let a = sum_by-cons (λ flag. f flag + g flag) x xs in
    let b = sum_by-cons f x xs in
    let c = sum_by-cons g x xs in
    omega (arith, a, b, c, add f g xs)

none : (flags : List Flag) → sum_by (λ flag. with_flag flag []) flags ≡ 0
none [] = refl
none (x ∷ xs) = omega (arith, sum_by-cons (λ flag. with_flag flag []) x xs, none xs)

pub all_of : (reasons : List Reason) → sum_by (λ flag. with_flag flag reasons) all_flags ≡ length reasons
all_of [] = none all_flags
all_of (r ∷ rs) =
    ap (λ (f : Flag → ℕ). sum_by f all_flags) (λ i flag. sum_by-cons (λ x. cond (number_of (flag_of x) == number_of flag) 1 0) r rs i)
    ∙ add (one_flag (flag_of r)) (λ flag. with_flag flag rs) all_flags
    ∙ omega (arith, one (flag_of r), all_of rs)

-- ---- each conflict counts once

split : (b : Bool) (kind : Kind)
    → cond (b && is_same_kind kind StaleRead) 1 0 + cond (b && is_same_kind kind Phantom) 1 0 + cond (b && is_same_kind kind OwnPolicy) 1 0 + cond (b && is_same_kind kind PolicyTouched) 1 0
    ≡ cond b 1 0
split true StaleRead = refl
split true Phantom = refl
split true OwnPolicy = refl
split true PolicyTouched = refl
split false kind = refl

pub once : (k : StateKey) (conflicts : List Conflict) → total_of (counts_of k conflicts) ≡ count_by (λ c. is_same_key c.key k) conflicts
once k [] = refl
once k (c ∷ cs) =
    let more = λ (p : Conflict → Bool). sum_by-cons (λ x. cond (p x) 1 0) c cs in
    omega (arith, split (is_same_key c.key k) c.kind, once k cs, more (is_of k StaleRead), more (is_of k Phantom), more (is_of k OwnPolicy), more (is_of k PolicyTouched), more (λ x. is_same_key x.key k))
