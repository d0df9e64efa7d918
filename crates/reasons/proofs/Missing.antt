-- The principal that is computed as missing is the one that the policy's text says.
use Rattle.std.proofs.Common.{◌≡◌, inl, inr, ℕ, suc, ◌<◌, ◌≤◌, ◌+◌, Bool, true, false, cond, List, Option, Some, None, is_some, refl, sym, ap, subst, ◌∙◌, arith}
use Rattle.std.specs.Prelude.{IfSome}
use Rattle.std.specs.Option.{option_or}
use Rattle.std.proofs.lemmas.Bool.{false≢true}
use Rattle.transaction.specs.declared.identity.Identity.{Identity}
use Rattle.policy.specs.declared.tree.PolicyRole.{PolicyRole}
use Rattle.policy.specs.declared.tree.Principal.{Principal}
use Rattle.policy.specs.Grammar.{Spells, SpellsMembers, principal_is, all_is, any_is, out_of_is, last_is, more_are, count}
use Rattle.policy.specs.Spelled.{IsSpelled}
use Rattle.policy.specs.Token.{Token}
use Rattle.policy.specs.Tree.{Tree, Trees, principal, gate, none, more}
use Rattle.policy_eval.specs.Evaluation.{first_free, none_used, Answers}
use Rattle.policy_eval.specs.Evaluating.{taken, evaluate, evaluate_all, is_satisfied}
use Rattle.reasons.specs.Missing.{Misses, FirstMisses}
use Rattle.reasons.specs.Shortfall.{missing_from, first_missing}
use Rattle.reasons.proofs.Lacking.{too_few, some_count}

-- of one that is satisfied nobody is missing
none_if : (t : Tree) (signers : List Identity) (used : List Bool) → (evaluate t signers used).0 ≡ true → missing_from t signers used ≡ None
none_if (principal org role) signers used e = by (first_free org role signers used) e
  where
    by : (place : Option ℕ) → (taken used place).0 ≡ true → ◌≡◌ {A = Option Principal} (cond (is_some place) None (Some (record { org = org; role = role }))) None
    by None e = absurd cc
    by (Some place) e = refl
none_if (gate n members) signers used e = ap (λ (b : Bool). cond b None (first_missing members signers used)) e

not_one : (b : Bool) → cond b 1 0 + 0 < 1 → b ≡ false
not_one true few = absurd (omega (arith, few))
not_one false few = refl

abbrev pub Evaluates : Type 0
Evaluates = (t : Tree) (signers : List Identity) (used : List Bool) → Answers t signers used (evaluate t signers used).0 (evaluate t signers used).1

abbrev Missed : Tree → List Identity → List Bool → Type 0
Missed t signers used = (p : Principal) × (missing_from t signers used ≡ Some p) × Misses t signers used p

abbrev FirstMissed : Trees → List Identity → List Bool → Type 0
FirstMissed ts signers used = (p : Principal) × (first_missing ts signers used ≡ Some p) × FirstMisses ts signers used p

module _ (law : Evaluates) (signers : List Identity) where
  answers : (t : Tree) (used : List Bool) (b : Bool) → (evaluate t signers used).0 ≡ b → Answers t signers used b (evaluate t signers used).1
  answers t used b e = subst (λ (x : Bool). Answers t signers used x (evaluate t signers used).1) e (law t signers used)

  of_principal : (org : List ℕ) (role : PolicyRole) (used : List Bool) (place : Option ℕ) → first_free org role signers used ≡ place → (taken used place).0 ≡ false
      → (p : Principal) × (cond {A = Option Principal} (is_some place) None (Some (record { org = org; role = role })) ≡ Some p) × ((first_free org role signers used ≡ None) × (p ≡ record { org = org; role = role }))
  of_principal org role used None e h = (record { org = org; role = role }, refl, (e, refl))
  of_principal org role used (Some place) e h = absurd cc

  of_gate : (n most : ℕ) (members : Trees) (used : List Bool) → n ≤ most → ((evaluate_all members signers used).0 < most → FirstMissed members signers used)
      → (evaluate (gate n members) signers used).0 ≡ false → Missed (gate n members) signers used
  of_gate n most members used le misses e =
      let few = too_few n used (evaluate_all members signers used) e in
      let first = misses (omega (arith, few, le)) in (
        first.0,
        ap (λ (b : Bool). cond b None (first_missing members signers used)) e ∙ first.1,
        ((evaluate (gate n members) signers used).1, answers (gate n members) used false e, first.2),
      )

  of_last : (t : Tree) (used : List Bool) → ((evaluate t signers used).0 ≡ false → Missed t signers used) → cond (evaluate t signers used).0 1 0 + 0 < 1 → FirstMissed (more t none) signers used
  of_last t used misses few =
      let m = misses (not_one (evaluate t signers used).0 few) in
      (m.0, ap (λ (o : Option Principal). option_or o None) m.1, inl m.2)

  of_more : (t : Tree) (members : Trees) (most : ℕ) (used : List Bool) (b : Bool) → (evaluate t signers used).0 ≡ b → ((evaluate t signers used).0 ≡ false → Missed t signers used)
      → ((evaluate_all members signers (evaluate t signers used).1).0 < most → FirstMissed members signers (evaluate t signers used).1)
      → cond b 1 0 + (evaluate_all members signers (evaluate t signers used).1).0 < suc most → FirstMissed (more t members) signers used
  of_more t members most used false e misses others few =
      let m = misses e in
      (m.0, ap (λ (o : Option Principal). option_or o (first_missing members signers (evaluate t signers used).1)) m.1, inl m.2)
  of_more t members most used true e misses others few =
      let m = others (omega (arith, few)) in (
        m.0,
        ap (λ (o : Option Principal). option_or o (first_missing members signers (evaluate t signers used).1)) (none_if t signers used e) ∙ m.1,
        inr ((evaluate t signers used).1, answers t used true e, m.2),
      )

mutual
  missed : (law : Evaluates) {t : Tree} {ts : List Token} → Spells t ts → (signers : List Identity) (used : List Bool) → (evaluate t signers used).0 ≡ false → Missed t signers used
  missed law (principal_is {org} {role}) signers used e = of_principal law signers org role used (first_free org role signers used) refl e
  missed law (all_is {members} {ts} m) signers used e = of_gate law signers (count members) (count members) members used (omega arith) (λ few. first_missed law m signers used few) e
  missed law (any_is {members} {ts} m) signers used e = of_gate law signers 1 (count members) members used (some_count m) (λ few. first_missed law m signers used few) e
  missed law (out_of_is {n} {members} {ts} least most m) signers used e = of_gate law signers n (count members) members used most (λ few. first_missed law m signers used few) e

  first_missed : (law : Evaluates) {members : Trees} {ts : List Token} → SpellsMembers members ts → (signers : List Identity) (used : List Bool)
      → (evaluate_all members signers used).0 < count members → FirstMissed members signers used
  first_missed law (last_is {t} {ts} s) signers used few = of_last law signers t used (λ e. missed law s signers used e) few
  first_missed law (more_are {t} {members} {ts} {us} s m) signers used few =
      of_more law signers t members (count members) used (evaluate t signers used).0 refl (λ e. missed law s signers used e)
      (λ fewer. first_missed law m signers (evaluate t signers used).1 fewer) few

pub one_misses_it : (law : Evaluates) (policy : Tree) (signers : List Identity) → IsSpelled policy → is_satisfied policy signers ≡ false
    → IfSome (missing_from policy signers (none_used signers)) (Misses policy signers (none_used signers))
one_misses_it law policy signers spelled e =
    let m = missed law spelled.policy.spells signers (none_used signers) e in
    subst (λ (o : Option Principal). IfSome o (Misses policy signers (none_used signers))) (sym m.1) m.2

-- ---- one at most

abbrev pub AnswersOnce : Type 0
AnswersOnce = (t : Tree) (signers : List Identity) (used : List Bool) (a b : Bool) (u v : List Bool) → Answers t signers used a u → Answers t signers used b v → (a ≡ b) × (u ≡ v)

fails : (t : Tree) (signers : List Identity) (used : List Bool) (p : Principal) → Misses t signers used p → (after : List Bool) × Answers t signers used false after
fails (principal org role) signers used p m = (used, (m.0, refl))
fails (gate n members) signers used p m = (m.0, m.1)

mutual
  pub one_missing : (law : AnswersOnce) (t : Tree) (signers : List Identity) (used : List Bool) (p q : Principal) → Misses t signers used p → Misses t signers used q → p ≡ q
  one_missing law (principal org role) signers used p q a b = a.1 ∙ sym b.1
  one_missing law (gate n members) signers used p q a b = one_first law members signers used p q a.2 b.2

  one_first : (law : AnswersOnce) (ts : Trees) (signers : List Identity) (used : List Bool) (p q : Principal) → FirstMisses ts signers used p → FirstMisses ts signers used q → p ≡ q
  one_first law none signers used p q a b = absurd a
  one_first law (more t ts) signers used p q (inl a) (inl b) = one_missing law t signers used p q a b
  one_first law (more t ts) signers used p q (inl a) (inr b) =
      let no = fails t signers used p a in
      absurd (false≢true (law t signers used false true no.0 b.0 no.1 b.1).0)
  one_first law (more t ts) signers used p q (inr a) (inl b) =
      let no = fails t signers used q b in
      absurd (false≢true (law t signers used false true no.0 a.0 no.1 a.1).0)
  one_first law (more t ts) signers used p q (inr a) (inr b) =
      let same = (law t signers used true true a.0 b.0 a.1 b.1).1 in
      one_first law ts signers b.0 p q (subst (λ (u : List Bool). FirstMisses ts signers u p) same a.2) b.2
