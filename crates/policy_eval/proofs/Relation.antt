-- The function answers what the relation does, and the relation has one answer.
use Rattle.std.proofs.Common.{◌≡◌, ℕ, ◌≤◌, List, Bool, true, false, cond, Option, Some, None, refl, sym, ap, subst, ◌∙◌, arith, length, take}
use Rattle.std.proofs.lemmas.List.{take-replicate}
use Rattle.std.specs.Prelude.{replicate, nat_le, ◌↔◌, IsTrue}
use Rattle.std.proofs.lemmas.Bool.{le-leb, leb-true, lt-leb, leb-false}
use Rattle.transaction.specs.declared.identity.Identity.{Identity}
use Rattle.policy.specs.declared.tree.PolicyRole.{PolicyRole}
use Rattle.policy.specs.Tree.{Tree, Trees, principal, gate, none, more}
use Rattle.policy_eval.specs.Evaluation.{first_free, Answers, AllAnswer, none_used, Satisfied}
use Rattle.policy_eval.specs.Evaluating.{taken, evaluate, evaluate_all, is_satisfied}

-- every answer of the relation is the function's
mutual
  pub answer_is : (t : Tree) (signers : List Identity) (used : List Bool) (answer : Bool) (after : List Bool) → Answers t signers used answer after → evaluate t signers used ≡ (answer, after)
  answer_is (principal org role) signers used true after h = rw h.1 (λ i. (true, sym h.2 i))
  answer_is (principal org role) signers used false after h = rw h.0 (λ i. (false, sym h.1 i))
  answer_is (gate n members) signers used true after h = rw (answers_are members signers used h.0 after h.1, le-leb n h.0 h.2) refl
  answer_is (gate n members) signers used false after h = rw (answers_are members signers used h.0 h.1 h.2, lt-leb n h.0 h.3) (λ i. (false, sym h.4 i))

  pub answers_are : (ts : Trees) (signers : List Identity) (used : List Bool) (count : ℕ) (after : List Bool) → AllAnswer ts signers used count after → evaluate_all ts signers used ≡ (count, after)
  answers_are none signers used count after h = λ i. (sym h.0 i, sym h.1 i)
  answers_are (more t ts) signers used count after h = rw (answer_is t signers used h.0 h.1 h.3, answers_are ts signers h.1 h.2 after h.4) (λ i. (sym h.5 i, after))

-- the function's answer is one of the relation
principal_answers : (org : List ℕ) (role : PolicyRole) (signers : List Identity) (used : List Bool) (place : Option ℕ) → first_free org role signers used ≡ place → Answers (principal org role) signers used (taken used place).0 (taken used place).1
principal_answers org role signers used None e = (e, refl)
principal_answers org role signers used (Some place) e = (place, e, refl)

gate_answers : (n count : ℕ) (members : Trees) (signers : List Identity) (used last : List Bool) → AllAnswer members signers used count last → (b : Bool) → nat_le n count ≡ b → Answers (gate n members) signers used (cond {A = Bool × List Bool} b (true, last) (false, used)).0 (cond {A = Bool × List Bool} b (true, last) (false, used)).1
gate_answers n count members signers used last h true e = (count, h, leb-true n count e)
gate_answers n count members signers used last h false e = (count, last, h, leb-false n count e, refl)

mutual
  pub evaluate_answers : (t : Tree) (signers : List Identity) (used : List Bool) → Answers t signers used (evaluate t signers used).0 (evaluate t signers used).1
  evaluate_answers (principal org role) signers used = principal_answers org role signers used (first_free org role signers used) refl
  evaluate_answers (gate n members) signers used = gate_answers n (evaluate_all members signers used).0 members signers used (evaluate_all members signers used).1 (evaluate_all_answers members signers used) _ refl

  pub evaluate_all_answers : (ts : Trees) (signers : List Identity) (used : List Bool) → AllAnswer ts signers used (evaluate_all ts signers used).0 (evaluate_all ts signers used).1
  evaluate_all_answers none signers used = (refl, refl)
  evaluate_all_answers (more t ts) signers used =
      (_, _, _, evaluate_answers t signers used, evaluate_all_answers ts signers (evaluate t signers used).1, refl)

-- two answers of the relation are one
pub one_answer : (t : Tree) (signers : List Identity) (used : List Bool) (a b : Bool) (u v : List Bool) → Answers t signers used a u → Answers t signers used b v → (a ≡ b) × (u ≡ v)
one_answer t signers used a b u v g h =
    let e : ◌≡◌ {A = Bool × List Bool} (a, u) (b, v) = sym (answer_is t signers used a u g) ∙ answer_is t signers used b v h in
    (ap (λ (p : Bool × List Bool). p.0) e, ap (λ (p : Bool × List Bool). p.1) e)

-- satisfied is what the function answers from the empty set
pub satisfied_is : (t : Tree) (signers : List Identity) → IsTrue (is_satisfied t signers) ↔ Satisfied t signers
satisfied_is t signers = (to, from)
  where
    to : IsTrue (is_satisfied t signers) → Satisfied t signers
    to h = (_, subst (λ (b : Bool). Answers t signers (none_used signers) b (evaluate t signers (none_used signers)).1) h (evaluate_answers t signers (none_used signers)))

    from : Satisfied t signers → IsTrue (is_satisfied t signers)
    from h = ap (λ (p : Bool × List Bool). p.0) (answer_is t signers (none_used signers) true h.0 h.1)

-- the first marks of a longer row of none
pub first_marks : (signers : List Identity) → length signers ≤ 64 → take (length signers) (replicate 64 false) ≡ none_used signers
first_marks signers few = take-replicate (length signers) 64 false (omega arith)

-- what evaluation of an equal tree and equal signers answers, from the first marks of a row of none
pub decided : (t root : Tree) (signers identities : List Identity) (after : List Bool) (answer : Bool) → root ≡ t → identities ≡ signers → length signers ≤ 64
    → evaluate root identities (take (length identities) (replicate 64 false)) ≡ (answer, after) → evaluate t signers (none_used signers) ≡ (answer, after)
decided t root signers identities after answer same_tree same few e =
    ap (λ (r : Tree). evaluate r signers (none_used signers)) (sym same_tree)
    ∙ ap (λ (l : List Identity). evaluate root l (none_used l)) (sym same)
    ∙ ap (λ (m : List Bool). evaluate root identities m) (sym (first_marks identities (omega (arith, ap length same))))
    ∙ e

-- which is what the definitions say
pub value_of : (t : Tree) (signers : List Identity) (after : List Bool) (answer : Bool) → evaluate t signers (none_used signers) ≡ (answer, after) → answer ≡ is_satisfied t signers
value_of t signers after answer e = ap (λ (p : Bool × List Bool). p.0) (sym e)

pub relation_of : (t : Tree) (signers : List Identity) (answer : Bool) → answer ≡ is_satisfied t signers → IsTrue answer ↔ Satisfied t signers
relation_of t signers answer e = rw e (satisfied_is t signers)
