-- The assigned pairs are an assignment.
use Rattle.std.proofs.Common.{◌≡◌, ◌≢◌, ℕ, zero, suc, ◌+◌, ◌<◌, ◌≤◌, List, [], ◌∷◌, ◌++◌, length, take, length-append, Bool, true, false, cond, map, Option, Some, None, refl, sym, ap, ◌∙◌, arith}
use Rattle.std.specs.Prelude.{replicate, slice_get, option_to_list}
use Rattle.std.specs.List.{AllByRecursion}
use Rattle.std.proofs.lemmas.Option.{slice_get_within}
use Rattle.transaction.specs.declared.identity.Identity.{Identity}
use Rattle.policy.specs.declared.tree.PolicyRole.{PolicyRole}
use Rattle.policy.specs.Tree.{Tree, Trees, principal, gate, none, more, leaves, all_leaves}
use Rattle.policy_eval.specs.Evaluation.{satisfies, first_free, none_used}
use Rattle.policy_eval.specs.Evaluating.{taken, evaluate, evaluate_all}
use Rattle.policy_eval.specs.Assignment.{assigned, assigned_all, principals, all_principals, IsServed, IsAssignment, assignment_of}
use Rattle.policy_eval.proofs.Relation.{first_marks}
use Rattle.policy_eval.proofs.Places.{free_at}
use Rattle.policy_eval.proofs.Marks.{AreKept, set_marks, evaluate_kept, evaluate_all_kept}
use Rattle.policy_eval.proofs.Pairs.{Pairwise, all_more, all_append, pairwise_append, pairwise_more, all_pairs}

-- a pair is served by a signer that is free before and taken after, where the first principal has this number
record IsTaken (asked : List (List ℕ × PolicyRole)) (signers : List Identity) (first : ℕ) (before after : List Bool) (pair : ℕ × ℕ) : Type 0 where
  index : ℕ
  number : pair.0 ≡ first + index
  wanted : List ℕ × PolicyRole
  principal : slice_get asked index ≡ Some wanted
  signer : Identity
  place : slice_get signers pair.1 ≡ Some signer
  satisfied : satisfies wanted.0 wanted.1 signer ≡ true
  free : slice_get before pair.1 ≡ Some false
  taken : slice_get after pair.1 ≡ Some true

-- pairs rise in their numbers and differ in their places
abbrev Follows : ℕ × ℕ → ℕ × ℕ → Type 0
Follows a b = (a.0 < b.0) × (a.1 ≢ b.1)

-- ---- how many principals there are

mutual
  length-principals : (t : Tree) → length (principals t) ≡ leaves t
  length-principals (principal org role) = refl
  length-principals (gate n members) = length-all_principals members

  length-all_principals : (ts : Trees) → length (all_principals ts) ≡ all_leaves ts
  length-all_principals none = refl
  length-all_principals (more t ts) = omega (arith, length-append (principals t) (all_principals ts), length-principals t, length-all_principals ts)

get-before : {X : Type 0} (xs ys : List X) (k : ℕ) (x : X) → slice_get xs k ≡ Some x → slice_get (xs ++ ys) k ≡ Some x
get-before [] ys k x e = absurd cc
get-before (z ∷ xs) ys zero x e = e
get-before (z ∷ xs) ys (suc k) x e = get-before xs ys k x e

get-behind : {X : Type 0} (xs ys : List X) (n k : ℕ) → n ≡ length xs + k → slice_get (xs ++ ys) n ≡ slice_get ys k
get-behind [] ys n k e = let same : n ≡ k = omega arith in rw same refl
get-behind (z ∷ xs) ys zero k e = absurd (omega arith)
get-behind (z ∷ xs) ys (suc n) k e = get-behind xs ys n k (omega arith)

-- ---- the pairs of a member, and those of the members behind it

member_taken : (t : Tree) (ts : Trees) (signers : List Identity) (first : ℕ) (before mid after : List Bool) → AreKept mid after
    → (pair : ℕ × ℕ) → IsTaken (principals t) signers first before mid pair → IsTaken (all_principals (more t ts)) signers first before after pair
member_taken t ts signers first before mid after kept pair h = record {
  index = h.index;
  number = h.number;
  wanted = h.wanted;
  principal = get-before (principals t) (all_principals ts) h.index h.wanted h.principal;
  signer = h.signer;
  place = h.place;
  satisfied = h.satisfied;
  free = h.free;
  taken = kept.kept pair.1 h.taken;
}

others_taken : (t : Tree) (ts : Trees) (signers : List Identity) (first : ℕ) (before mid after : List Bool) → AreKept before mid
    → (pair : ℕ × ℕ) → IsTaken (all_principals ts) signers (first + leaves t) mid after pair → IsTaken (all_principals (more t ts)) signers first before after pair
others_taken t ts signers first before mid after kept pair h = record {
  index = leaves t + h.index;
  number = omega (arith, h.number);
  wanted = h.wanted;
  principal = get-behind (principals t) (all_principals ts) (leaves t + h.index) h.index (omega (arith, length-principals t)) ∙ h.principal;
  signer = h.signer;
  place = h.place;
  satisfied = h.satisfied;
  free = kept.unused pair.1 h.free;
  taken = h.taken;
}

others_follow : (t : Tree) (ts : Trees) (signers : List Identity) (first : ℕ) (before mid after : List Bool)
    → (a b : ℕ × ℕ) → IsTaken (principals t) signers first before mid a → IsTaken (all_principals ts) signers (first + leaves t) mid after b → Follows a b
others_follow t ts signers first before mid after a b g h =
    let few : g.index < length (principals t) = slice_get_within (principals t) g.index g.wanted g.principal in (
      omega (arith, few, length-principals t, g.number, h.number),
      λ same. let both : ◌≡◌ {A = Option Bool} (Some true) (Some false) = sym g.taken ∙ ap (slice_get mid) same ∙ h.free in absurd cc,
    )

-- ---- every tree

abbrev AreTaken : List (List ℕ × PolicyRole) → List Identity → ℕ → List Bool → List Bool → List (ℕ × ℕ) → Type 0
AreTaken asked signers first before after pairs = AllByRecursion (IsTaken asked signers first before after) pairs × Pairwise Follows pairs

principal_taken : (org : List ℕ) (role : PolicyRole) (signers : List Identity) (used : List Bool) (first : ℕ) (place : Option ℕ) → first_free org role signers used ≡ place
    → AreTaken ((org, role) ∷ []) signers first used (taken used place).1 (map (λ k. (first, k)) (option_to_list place))
principal_taken org role signers used first None e = (tt, tt)
principal_taken org role signers used first (Some k) e =
    let found = free_at org role signers used k e in
    ((record { index = 0; number = omega arith; wanted = (org, role); principal = refl; signer = found.signer; place = found.at; satisfied = found.satisfied; free = found.free; taken = set_marks used k found.free }, tt), (tt, tt))

gate_taken : (asked : List (List ℕ × PolicyRole)) (signers : List Identity) (first : ℕ) (used last : List Bool) (pairs : List (ℕ × ℕ)) → AreTaken asked signers first used last pairs
    → (b : Bool) → AreTaken asked signers first used (cond {A = Bool × List Bool} b (true, last) (false, used)).1 (cond ((cond {A = Bool × List Bool} b (true, last) (false, used)).0) pairs [])
gate_taken asked signers first used last pairs h true = h
gate_taken asked signers first used last pairs h false = (tt, tt)

mutual
  are_taken : (t : Tree) (signers : List Identity) (used : List Bool) (first : ℕ) → AreTaken (principals t) signers first used (evaluate t signers used).1 (assigned t signers used first)
  are_taken (principal org role) signers used first = principal_taken org role signers used first (first_free org role signers used) refl
  are_taken (gate n members) signers used first =
      gate_taken (all_principals members) signers first used (evaluate_all members signers used).1 (assigned_all members signers used first) (all_are_taken members signers used first) _

  all_are_taken : (ts : Trees) (signers : List Identity) (used : List Bool) (first : ℕ) → AreTaken (all_principals ts) signers first used (evaluate_all ts signers used).1 (assigned_all ts signers used first)
  all_are_taken none signers used first = (tt, tt)
  all_are_taken (more t ts) signers used first =
      let mid = (evaluate t signers used).1 in
      let after = (evaluate_all ts signers mid).1 in
      let here = are_taken t signers used first in
      let there = all_are_taken ts signers mid (first + leaves t) in (
        all_append (IsTaken (all_principals (more t ts)) signers first used after) (assigned t signers used first) (assigned_all ts signers mid (first + leaves t))
            (all_more (IsTaken (principals t) signers first used mid) (IsTaken (all_principals (more t ts)) signers first used after)
            (member_taken t ts signers first used mid after (evaluate_all_kept ts signers mid)) (assigned t signers used first) here.0)
            (all_more (IsTaken (all_principals ts) signers (first + leaves t) mid after) (IsTaken (all_principals (more t ts)) signers first used after)
            (others_taken t ts signers first used mid after (evaluate_kept t signers used)) (assigned_all ts signers mid (first + leaves t)) there.0),
        pairwise_append Follows (IsTaken (principals t) signers first used mid) (IsTaken (all_principals ts) signers (first + leaves t) mid after)
            (others_follow t ts signers first used mid after) (assigned t signers used first) (assigned_all ts signers mid (first + leaves t)) here.0 there.0 here.1 there.1,
      )

-- ---- the whole policy

served_is : (policy : Tree) (signers : List Identity) (before after : List Bool) (pair : ℕ × ℕ) → IsTaken (principals policy) signers 0 before after pair → IsServed policy signers pair
served_is policy signers before after pair h =
    let same : pair.0 ≡ h.index = omega (arith, h.number) in
    record { asked = h.wanted; principal = ap (slice_get (principals policy)) same ∙ h.principal; signer = h.signer; place = h.place; satisfied = h.satisfied }

pub assigned_served : (policy : Tree) (signers : List Identity) (used : List Bool) → IsAssignment policy signers (assigned policy signers used 0)
assigned_served policy signers used =
    let after = (evaluate policy signers used).1 in
    let pairs = assigned policy signers used 0 in
    let h = are_taken policy signers used 0 in
    record {
      ordered = all_pairs (λ (a b : ℕ × ℕ). a.0 < b.0) pairs (pairwise_more Follows (λ (a b : ℕ × ℕ). a.0 < b.0) (λ a b k. k.0) pairs h.1);
      distinct = all_pairs (λ (a b : ℕ × ℕ). a.1 ≢ b.1) pairs (pairwise_more Follows (λ (a b : ℕ × ℕ). a.1 ≢ b.1) (λ a b k. k.1) pairs h.1);
      served = all_more (IsTaken (principals policy) signers 0 used after) (IsServed policy signers) (served_is policy signers used after) pairs h.0;
    }

-- ---- what the walk over an equal tree and equal signers leaves

pub pairs_from : (t root : Tree) (signers identities : List Identity) (begun pairs : List (ℕ × ℕ)) → root ≡ t → identities ≡ signers → length signers ≤ 64 → begun ≡ []
    → pairs ≡ begun ++ assigned root identities (take (length identities) (replicate 64 false)) 0 → pairs ≡ assigned t signers (none_used signers) 0
pairs_from t root signers identities begun pairs same_tree same few empty e =
    e ∙ ap (λ l. l ++ assigned root identities (take (length identities) (replicate 64 false)) 0) empty
    ∙ ap (λ (m : List Bool). assigned root identities m 0) (first_marks identities (omega (arith, ap length same)))
    ∙ ap (λ (l : List Identity). assigned root l (none_used l) 0) same
    ∙ ap (λ (r : Tree). assigned r signers (none_used signers) 0) same_tree

pub assignment_is : (t : Tree) (signers : List Identity) (after : List Bool) (answer : Bool) (pairs : List (ℕ × ℕ)) → pairs ≡ assigned t signers (none_used signers) 0
    → evaluate t signers (none_used signers) ≡ (answer, after) → cond answer (Some pairs) None ≡ assignment_of t signers
assignment_is t signers after answer pairs e value =
    ap (λ l. cond answer (Some l) None) e ∙ ap (λ (p : Bool × List Bool). cond p.0 (Some (assigned t signers (none_used signers) 0)) None) (sym value)
