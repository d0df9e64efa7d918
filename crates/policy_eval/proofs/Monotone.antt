-- A gate of principals alone stays satisfied when signers come behind.
use Rattle.std.proofs.Common.{◌≡◌, ℕ, zero, suc, ◌+◌, ◌<◌, ◌≤◌, List, [], ◌∷◌, ◌++◌, length, Bool, true, false, cond, Option, Some, None, refl, sym, ap, subst, ◌∙◌, arith, zero-add}
use Rattle.std.specs.Prelude.{slice_set, option_map}
use Rattle.std.proofs.lemmas.Option.{slice_get_within}
use Rattle.transaction.specs.declared.identity.Identity.{Identity}
use Rattle.policy.specs.declared.tree.PolicyRole.{PolicyRole}
use Rattle.policy.specs.Tree.{Trees, principal, gate, none, more}
use Rattle.policy_eval.specs.Evaluation.{first_free, none_used, Satisfied}
use Rattle.policy_eval.specs.Evaluating.{taken, evaluate, evaluate_all}
use Rattle.policy_eval.specs.Flat.{ArePrincipals}
use Rattle.policy_eval.proofs.Places.{first_free-cons, serves, free_at}
use Rattle.policy_eval.proofs.Relation.{answers_are, evaluate_all_answers}

-- ---- the first free signer, where others come behind so many

abbrev or_behind : ℕ → Option ℕ → Option ℕ → Option ℕ
or_behind n (Some place) later = Some place
or_behind n None later = option_map (λ k. n + k) later

behind_none : (later : Option ℕ) → later ≡ option_map (λ k. 0 + k) later
behind_none None = refl
behind_none (Some k) = ap Some (sym (zero-add k))

suc-behind : (n : ℕ) (later : Option ℕ) → option_map suc (option_map (λ k. n + k) later) ≡ option_map (λ k. suc n + k) later
suc-behind n None = refl
suc-behind n (Some k) = let e : suc (n + k) ≡ suc n + k = omega arith in ap Some e

one_before : (b : Bool) (n : ℕ) (here later : Option ℕ) → cond b (Some 0) (option_map suc (or_behind n here later)) ≡ or_behind (suc n) (cond b (Some 0) (option_map suc here)) later
one_before true n here later = refl
one_before false n None later = suc-behind n later
one_before false n (Some k) later = refl

first_free-append : (org : List ℕ) (role : PolicyRole) (signers others : List Identity) (used marks : List Bool) → length used ≡ length signers
    → first_free org role (signers ++ others) (used ++ marks) ≡ or_behind (length signers) (first_free org role signers used) (first_free org role others marks)
first_free-append org role [] others [] marks e = behind_none (first_free org role others marks)
first_free-append org role [] others (u ∷ used) marks e = absurd (omega arith)
first_free-append org role (s ∷ signers) others [] marks e = absurd (omega arith)
first_free-append org role (s ∷ signers) others (u ∷ used) marks e =
    first_free-cons org role s (signers ++ others) u (used ++ marks)
    ∙ ap (λ o. cond (serves org role (s, u)) (Some 0) (option_map suc o)) (first_free-append org role signers others used marks (omega arith))
    ∙ one_before (serves org role (s, u)) (length signers) (first_free org role signers used) (first_free org role others marks)
    ∙ ap (λ o. or_behind (suc (length signers)) o (first_free org role others marks)) (sym (first_free-cons org role s signers u used))

-- ---- marks, where others come behind

set-before : (used marks : List Bool) (k : ℕ) → k < length used → slice_set (used ++ marks) k true ≡ slice_set used k true ++ marks
set-before [] marks k h = absurd (omega arith)
set-before (u ∷ used) marks zero h = refl
set-before (u ∷ used) marks (suc k) h = ap (λ l. u ∷ l) (set-before used marks k (omega arith))

set-behind : (used marks : List Bool) (n k : ℕ) → n ≡ length used + k → slice_set (used ++ marks) n true ≡ used ++ slice_set marks k true
set-behind [] marks n k e = let same : n ≡ k = omega arith in rw same refl
set-behind (u ∷ used) marks zero k e = absurd (omega arith)
set-behind (u ∷ used) marks (suc n) k e = ap (λ l. u ∷ l) (set-behind used marks n k (omega arith))

length-slice_set : (used : List Bool) (k : ℕ) → length (slice_set used k true) ≡ length used
length-slice_set [] k = refl
length-slice_set (u ∷ used) zero = refl
length-slice_set (u ∷ used) (suc k) = ap suc (length-slice_set used k)

abbrev point : Bool → ℕ
point b = cond b 1 0

-- an answer with others behind leaves the same marks before them, and is no worse
record IsNoWorse (used : List Bool) (alone beside : Bool × List Bool) : Type 0 where
  marks : List Bool
  before : beside.1 ≡ alone.1 ++ marks
  long : length alone.1 ≡ length used
  better : point alone.0 ≤ point beside.0

took : (used marks : List Bool) (n : ℕ) (here later : Option ℕ) → length used ≡ n → ((k : ℕ) → here ≡ Some k → k < length used)
    → IsNoWorse used (taken used here) (taken (used ++ marks) (or_behind n here later))
took used marks n (Some k) later e inside = record { marks = marks; before = set-before used marks k (inside k refl); long = length-slice_set used k; better = omega arith }
took used marks n None None e inside = record { marks = marks; before = refl; long = refl; better = omega arith }
took used marks n None (Some k) e inside = record { marks = slice_set marks k true; before = set-behind used marks (n + k) k (omega arith); long = refl; better = omega arith }

principal_no_worse : (org : List ℕ) (role : PolicyRole) (signers others : List Identity) (used marks : List Bool) → length used ≡ length signers
    → IsNoWorse used (evaluate (principal org role) signers used) (evaluate (principal org role) (signers ++ others) (used ++ marks))
principal_no_worse org role signers others used marks e =
    let P : Option ℕ → Type 0 = λ o. IsNoWorse used (taken used (first_free org role signers used)) (taken (used ++ marks) o) in
    subst P (sym (first_free-append org role signers others used marks e))
    (took used marks (length signers) (first_free org role signers used) (first_free org role others marks) e
    (λ k h. slice_get_within used k false ((free_at org role signers used k h).free)))

counts_no_worse : (members : Trees) (signers others : List Identity) (used marks : List Bool) → ArePrincipals members → length used ≡ length signers
    → (evaluate_all members signers used).0 ≤ (evaluate_all members (signers ++ others) (used ++ marks)).0
counts_no_worse none signers others used marks flat e = omega arith
counts_no_worse (more (gate n inner) members) signers others used marks flat e = absurd flat
counts_no_worse (more (principal org role) members) signers others used marks flat e =
    let here = principal_no_worse org role signers others used marks e in
    let alone = evaluate (principal org role) signers used in
    let beside = evaluate (principal org role) (signers ++ others) (used ++ marks) in
    let rest = counts_no_worse members signers others alone.1 here.marks flat (here.long ∙ e) in
    let same : (evaluate_all members (signers ++ others) beside.1).0 ≡ (evaluate_all members (signers ++ others) (alone.1 ++ here.marks)).0 = ap (λ l. (evaluate_all members (signers ++ others) l).0) here.before in
    omega (arith, rest, same, here.better)

-- ---- from the empty set

replicate-append : (signers others : List Identity) → none_used (signers ++ others) ≡ none_used signers ++ none_used others
replicate-append [] others = refl
replicate-append (s ∷ signers) others = ap (λ l. false ∷ l) (replicate-append signers others)

length-none_used : (signers : List Identity) → length (none_used signers) ≡ length signers
length-none_used [] = refl
length-none_used (s ∷ signers) = ap suc (length-none_used signers)

pub monotone : (threshold : ℕ) (members : Trees) (signers others : List Identity) → ArePrincipals members → Satisfied (gate threshold members) signers → Satisfied (gate threshold members) (signers ++ others)
monotone threshold members signers others flat h =
    let all = signers ++ others in
    let alone : (evaluate_all members signers (none_used signers)).0 ≡ h.1.0 = ap (λ (p : ℕ × List Bool). p.0) (answers_are members signers (none_used signers) h.1.0 h.0 h.1.1) in
    let more_count = counts_no_worse members signers others (none_used signers) (none_used others) flat (length-none_used signers) in
    let marks : (evaluate_all members all (none_used all)).0 ≡ (evaluate_all members all (none_used signers ++ none_used others)).0 = ap (λ (l : List Bool). (evaluate_all members all l).0) (replicate-append signers others) in
    let enough : threshold ≤ (evaluate_all members all (none_used all)).0 = omega (arith, h.1.2, alone, more_count, marks) in
    (_, (_, evaluate_all_answers members all (none_used all), enough))
