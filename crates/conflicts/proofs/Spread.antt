-- What the lines of a ranking have together, and that each transaction is counted once.
use Rattle.std.proofs.Common.{◌≡◌, ℕ, ◌+◌, Bool, true, false, ◌||◌, cond, List, [], ◌∷◌, length, Option, Some, None, refl, sym, ap, ◌∙◌, arith}
use Rattle.std.specs.Prelude.{◌==◌, is_some}
use Rattle.std.specs.List.{AllByRecursion, list_all, count_by, sum_by, cons_option}
use Rattle.std.specs.List.Sorted.{IsStrictlySortedBy}
use Rattle.std.proofs.lemmas.List.Sums.{sum_by-cons}
use Rattle.std.proofs.lemmas.Map.Keys.{sorted_head, sorted_tail}
use Rattle.rules.specs.declared.flag.Flag.{Flag}
use Rattle.rules.specs.declared.flag.Flag.TheVariants.{EndorsementPolicyFailure, MvccReadConflict, PhantomReadConflict}
use Rattle.rules.specs.Flags.{number_of}
use Rattle.rules.specs.State.{StateKey, is_same_key, is_among}
use Rattle.rules.proofs.Booleans.{both_true, neither}
use Rattle.rules.proofs.Keys.{same_key_is}
use Rattle.reasons.specs.declared.endorsement_fault.EndorsementFault.TheVariants.{Touched, Unsatisfied, ChaincodeUnsatisfied}
use Rattle.reasons.specs.declared.policy_owner.PolicyOwner.TheVariants.{OfKey, OfChaincode}
use Rattle.reasons.specs.declared.reason.Reason.{Reason}
use Rattle.reasons.specs.declared.reason.Reason.TheVariants.{NoFault, NoTransaction, BadSignature, InvalidUpdate, OtherId, UsedId, NotEndorsed, ReadConflict, PhantomConflict, OtherChannel, NotInForm, Undefined}
use Rattle.reasons.specs.Reason.{flag_of}
use Rattle.conflicts.specs.declared.conflict.Conflict.{Conflict}
use Rattle.conflicts.specs.Conflict.{conflict_of, conflicts_of}
use Rattle.conflicts.specs.Lack.{lack_of, lacks_of}
use Rattle.conflicts.specs.FlagCounts.{with_flag}
use Rattle.conflicts.specs.KeyCounts.{total_of}
use Rattle.conflicts.specs.Laws.{total_where}
use Rattle.conflicts.specs.Ranking.{Line, line_cmp, IsRanking}
use Rattle.conflicts.proofs.Sums.{once}
use Rattle.conflicts.proofs.Unique.{keys, Counted, absent, counted}

-- no key is listed twice
abbrev Apart : List Line → Type 0
Apart [] = Unit {0}
Apart (l ∷ ls) = (is_among l.0 (keys ls) ≡ false) × Apart ls

apart : (conflicts : List Conflict) (ls : List Line) → AllByRecursion (Counted conflicts) ls → IsStrictlySortedBy line_cmp ls → Apart ls
apart conflicts [] p s = tt
apart conflicts (l ∷ ls) p s =
    (absent conflicts l ls p.0 p.1 (sorted_head line_cmp l ls s), apart conflicts ls p.1 (sorted_tail line_cmp l ls s))

zero_of : (b : Bool) → ◌≡◌ {A = ℕ} (cond b 0 0) 0
zero_of true = refl
zero_of false = refl

add_at : (b : Bool) (m n : ℕ) → cond b (m + n) 0 ≡ cond b m 0 + cond b n 0
add_at true m n = refl
add_at false m n = refl

module _ (test : StateKey → Bool) where
  -- one transaction of this key
  abbrev weight : StateKey → Line → ℕ
  weight k l = cond (test l.0) (cond (is_same_key k l.0) 1 0) 0

  -- those that are counted for a line
  abbrev share : List Conflict → Line → ℕ
  share cs l = cond (test l.0) (count_by (λ c. is_same_key c.key l.0) cs) 0

  light : (k : StateKey) (l : Line) → is_same_key k l.0 ≡ false → weight k l ≡ 0
  light k l e = ap (λ b. cond (test l.0) (cond b 1 0) 0) e ∙ zero_of (test l.0)

  none : (k : StateKey) (ls : List Line) → is_among k (keys ls) ≡ false → sum_by (weight k) ls ≡ 0
  none k [] e = refl
  none k (l ∷ ls) e =
      let both = neither (is_same_key k l.0) (is_among k (keys ls)) e in
      omega (arith, sum_by-cons (weight k) l ls, light k l both.0, none k ls both.1)

  one_by : (k : StateKey) (l : Line) (ls : List Line) (same : Bool) → is_same_key k l.0 ≡ same → is_among l.0 (keys ls) ≡ false
      → (is_among k (keys ls) ≡ true → sum_by (weight k) ls ≡ cond (test k) 1 0) → (same || is_among k (keys ls)) ≡ true
      → sum_by (weight k) (l ∷ ls) ≡ cond (test k) 1 0
  one_by k l ls true e others more h =
      let here : k ≡ l.0 = same_key_is k l.0 e in
      let weighs : weight k l ≡ cond (test k) 1 0 = ap (λ b. cond (test l.0) (cond b 1 0) 0) e ∙ ap (λ x. cond (test x) 1 0) (sym here) in
      let gone : is_among k (keys ls) ≡ false = ap (λ x. is_among x (keys ls)) here ∙ others in
      omega (arith, sum_by-cons (weight k) l ls, weighs, none k ls gone)
  one_by k l ls false e others more h = omega (arith, sum_by-cons (weight k) l ls, light k l e, more h)

  one : (k : StateKey) (ls : List Line) → Apart ls → is_among k (keys ls) ≡ true → sum_by (weight k) ls ≡ cond (test k) 1 0
  one k [] a h = absurd cc
  one k (l ∷ ls) a h = one_by k l ls (is_same_key k l.0) refl a.0 (one k ls a.1) h

  nothing : (ls : List Line) → sum_by (share []) ls ≡ 0
  nothing [] = refl
  nothing (l ∷ ls) = omega (arith, sum_by-cons (share []) l ls, zero_of (test l.0), nothing ls)

  share_more : (c : Conflict) (cs : List Conflict) (l : Line) → share (c ∷ cs) l ≡ weight c.key l + share cs l
  share_more c cs l =
      ap (λ n. cond (test l.0) n 0) (sum_by-cons (λ x. cond (is_same_key x.key l.0) 1 0) c cs)
      ∙ add_at (test l.0) (cond (is_same_key c.key l.0) 1 0) (count_by (λ x. is_same_key x.key l.0) cs)

  shares_more : (c : Conflict) (cs : List Conflict) (ls : List Line) → sum_by (share (c ∷ cs)) ls ≡ sum_by (weight c.key) ls + sum_by (share cs) ls
  shares_more c cs [] = refl
  shares_more c cs (l ∷ ls) =
      omega (arith, share_more c cs l, shares_more c cs ls, sum_by-cons (share (c ∷ cs)) l ls, sum_by-cons (weight c.key) l ls, sum_by-cons (share cs) l ls)

  shares : (cs : List Conflict) (ls : List Line) → Apart ls → list_all (λ c. is_among c.key (keys ls)) cs ≡ true
      → sum_by (share cs) ls ≡ count_by (λ c. test c.key) cs
  shares [] ls a h = nothing ls
  shares (c ∷ cs) ls a h =
      let both = both_true (is_among c.key (keys ls)) (list_all (λ x. is_among x.key (keys ls)) cs) h in
      omega (arith, shares_more c cs ls, one c.key ls a both.0, shares cs ls a both.1, sum_by-cons (λ x. cond (test x.key) 1 0) c cs)

  totals : (conflicts : List Conflict) (ls : List Line) → AllByRecursion (Counted conflicts) ls → total_where test ls ≡ sum_by (share conflicts) ls
  totals conflicts [] p = refl
  totals conflicts (l ∷ ls) p =
      let one_line : cond (test l.0) (total_of l.1) 0 ≡ share conflicts l = ap (λ n. cond (test l.0) n 0) (ap total_of p.0 ∙ once l.0 conflicts) in
      omega (arith, sum_by-cons (λ (x : Line). cond (test x.0) (total_of x.1) 0) l ls, sum_by-cons (share conflicts) l ls, one_line, totals conflicts ls p.1)

pub lines_add_up : (conflicts : List Conflict) (lines : List Line) (test : StateKey → Bool) → IsRanking conflicts lines
    → total_where test lines ≡ count_by (λ c. test c.key) conflicts
lines_add_up conflicts lines test r =
    let each = counted conflicts lines r in
    totals test conflicts lines each ∙ shares test conflicts lines (apart conflicts lines each r.order) r.all

-- ---- at a key or at a chaincode

abbrev has : Option Conflict → ℕ
has o = cond (is_some o) 1 0

longer : (o : Option Conflict) (cs : List Conflict) → length (cons_option o cs) ≡ has o + length cs
longer None cs = omega arith
longer (Some c) cs = omega arith

abbrev marks : Flag → Reason → ℕ
marks flag r = cond (number_of (flag_of r) == number_of flag) 1 0

blamed : (r : Reason) → has (conflict_of r) + has (lack_of r) ≡ marks EndorsementPolicyFailure r + marks MvccReadConflict r + marks PhantomReadConflict r
blamed NoFault = refl
blamed NoTransaction = refl
blamed (BadSignature x) = refl
blamed (InvalidUpdate x) = refl
blamed (OtherId x) = refl
blamed (UsedId x) = refl
blamed (NotEndorsed (Touched namespace key place)) = refl
blamed (NotEndorsed (Unsatisfied namespace key OfKey x)) = refl
blamed (NotEndorsed (Unsatisfied namespace key OfChaincode x)) = refl
blamed (NotEndorsed (ChaincodeUnsatisfied chaincode x)) = refl
blamed (ReadConflict x) = refl
blamed (PhantomConflict x) = refl
blamed (OtherChannel x) = refl
blamed (NotInForm x) = refl
blamed (Undefined x) = refl

pub blamed_once : (reasons : List Reason)
    → length (conflicts_of reasons) + length (lacks_of reasons) ≡ with_flag EndorsementPolicyFailure reasons + with_flag MvccReadConflict reasons + with_flag PhantomReadConflict reasons
blamed_once [] = refl
blamed_once (r ∷ rs) =
    let more = λ (flag : Flag). sum_by-cons (marks flag) r rs in
    omega (arith, blamed r, blamed_once rs, longer (conflict_of r) (conflicts_of rs), longer (lack_of r) (lacks_of rs), more EndorsementPolicyFailure, more MvccReadConflict, more PhantomReadConflict)
