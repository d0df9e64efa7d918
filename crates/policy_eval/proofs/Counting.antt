-- A walk over the members of a gate, one after another.
use Rattle.std.proofs.Common.{◌≡◌, ℕ, zero, suc, ◌+◌, ◌<◌, ◌≤◌, List, [], ◌∷◌, ◌++◌, append_assoc, Bool, true, false, length, get_or, drop, ap, sym, ◌∙◌, arith, drop-cons, cond}
use Rattle.transaction.specs.declared.identity.Identity.{Identity}
use Rattle.policy.specs.Tree.{Tree, size_of, size_of_all, leaves, all_leaves}
use Rattle.policy.specs.View.{trees}
use Rattle.policy_eval.specs.Evaluating.{evaluate, evaluate_all, counted}
use Rattle.policy_eval.specs.Assignment.{assigned, assigned_all}

-- so many members more
abbrev pub added : ℕ → ℕ × List Bool → ℕ × List Bool
added n rest = (n + rest.0, rest.1)

-- a member is no larger than all of them
pub size_of-member : (ts : List Tree) (i : ℕ) (d : Tree) → i < length ts → size_of (get_or ts i d) ≤ size_of_all (trees ts)
size_of-member [] i d h = absurd (omega arith)
size_of-member (t ∷ ts) zero d h = omega arith
size_of-member (t ∷ ts) (suc i) d h = omega (arith, size_of-member ts i d (omega arith))

added-counted : (n : ℕ) (answer : Bool) (rest : ℕ × List Bool) → added n (counted answer rest) ≡ added (n + cond answer 1 0) rest
added-counted n true rest = let e : n + (1 + rest.0) ≡ (n + 1) + rest.0 = omega arith in λ i. (e i, rest.1)
added-counted n false rest = let e : n + (0 + rest.0) ≡ (n + 0) + rest.0 = omega arith in λ i. (e i, rest.1)

-- one member more is counted
pub one_more : (signers : List Identity) (ts : List Tree) (i : ℕ) (t : Tree) (used after : List Bool) (n : ℕ) (answer : Bool) → i < length ts → t ≡ get_or ts i t → evaluate t signers used ≡ (answer, after)
    → added n (evaluate_all (trees (drop i ts)) signers used) ≡ added (n + cond answer 1 0) (evaluate_all (trees (drop (suc i) ts)) signers after)
one_more signers ts i t used after n answer h is e =
    ap (λ (l : List Tree). added n (evaluate_all (trees l) signers used)) (drop-cons ts i t h)
    ∙ ap (λ (m : Tree). added n (counted (evaluate m signers used).0 (evaluate_all (trees (drop (suc i) ts)) signers (evaluate m signers used).1))) (sym is)
    ∙ ap (λ (p : Bool × List Bool). added n (counted p.0 (evaluate_all (trees (drop (suc i) ts)) signers p.1))) e
    ∙ added-counted n answer (evaluate_all (trees (drop (suc i) ts)) signers after)

-- the numbers of one member's principals, and of those behind it
pub leaves-drop : (ts : List Tree) (i : ℕ) (t : Tree) → i < length ts → t ≡ get_or ts i t → all_leaves (trees (drop i ts)) ≡ leaves t + all_leaves (trees (drop (suc i) ts))
leaves-drop ts i t h is = ap (λ (l : List Tree). all_leaves (trees l)) (drop-cons ts i t h) ∙ ap (λ (m : Tree). leaves m + all_leaves (trees (drop (suc i) ts))) (sym is)

-- the pairs of one member more
pub pairs_more : (signers : List Identity) (ts : List Tree) (i : ℕ) (t : Tree) (used after : List Bool) (answer : Bool) (first : ℕ) (pairs : List (ℕ × ℕ)) → i < length ts → t ≡ get_or ts i t → evaluate t signers used ≡ (answer, after)
    → pairs ++ assigned_all (trees (drop i ts)) signers used first ≡ (pairs ++ assigned t signers used first) ++ assigned_all (trees (drop (suc i) ts)) signers after (first + leaves t)
pairs_more signers ts i t used after answer first pairs h is e =
    let others : List Bool → ℕ → List (ℕ × ℕ) = λ marks next. assigned_all (trees (drop (suc i) ts)) signers marks next in
    ap (λ (l : List Tree). pairs ++ assigned_all (trees l) signers used first) (drop-cons ts i t h)
    ∙ ap (λ (m : Tree). pairs ++ (assigned m signers used first ++ others (evaluate m signers used).1 (first + leaves m))) (sym is)
    ∙ ap (λ (p : Bool × List Bool). pairs ++ (assigned t signers used first ++ others p.1 (first + leaves t))) e
    ∙ sym (append_assoc pairs (assigned t signers used first) (others after (first + leaves t)))
