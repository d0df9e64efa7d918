-- Signers who don't satisfy a policy that can be read leave a principal out.
use Rattle.std.proofs.Common.{◌≡◌, ℕ, suc, ◌<◌, ◌≤◌, ◌+◌, Bool, true, false, cond, List, Option, Some, None, is_some, refl, ap, arith}
use Rattle.std.specs.Prelude.{nat_le}
use Rattle.std.specs.Option.{option_or}
use Rattle.std.proofs.lemmas.Bool.{leb-false}
use Rattle.transaction.specs.declared.identity.Identity.{Identity}
use Rattle.policy.specs.declared.tree.Principal.{Principal}
use Rattle.policy.specs.Grammar.{Spells, SpellsMembers, principal_is, all_is, any_is, out_of_is, last_is, more_are, count}
use Rattle.policy.specs.Spelled.{IsSpelled}
use Rattle.policy.specs.Token.{Token}
use Rattle.policy.specs.Tree.{Tree, Trees, principal, gate}
use Rattle.policy_eval.specs.Evaluation.{first_free, none_used}
use Rattle.policy_eval.specs.Evaluating.{taken, gated, evaluate, evaluate_all, is_satisfied}
use Rattle.reasons.specs.Shortfall.{missing_from, first_missing}

-- a principal that takes nobody
not_taken : (p : Principal) (used : List Bool) (place : Option ℕ) → (taken used place).0 ≡ false → is_some (cond {A = Option Principal} (is_some place) None (Some p)) ≡ true
not_taken p used None e = refl
not_taken p used (Some place) e = absurd cc

-- a gate that gets too few
pub too_few : (n : ℕ) (used : List Bool) (members : ℕ × List Bool) → (gated n used members).0 ≡ false → members.0 < n
too_few n used members e = by (nat_le n members.0) refl e
  where
    by : (b : Bool) → nat_le n members.0 ≡ b → (cond {A = Bool × List Bool} b (true, members.1) (false, used)).0 ≡ false → members.0 < n
    by true le e = absurd cc
    by false le e = leb-false n members.0 le

failed : (b : Bool) (o : Option Principal) → b ≡ false → is_some o ≡ true → is_some (cond b None o) ≡ true
failed false o e there = there
failed true o e there = absurd cc

pub some_count : {members : Trees} {ts : List Token} → SpellsMembers members ts → 1 ≤ count members
some_count (last_is s) = omega arith
some_count (more_are s m) = omega arith

or_there : (a b : Option Principal) → is_some b ≡ true → is_some (option_or a b) ≡ true
or_there None b e = e
or_there (Some x) b e = refl

or_first : (a b : Option Principal) → is_some a ≡ true → is_some (option_or a b) ≡ true
or_first None b e = absurd cc
or_first (Some x) b e = refl

-- of the last member, and of one before others
last_misses : (b : Bool) (o : Option Principal) → (b ≡ false → is_some o ≡ true) → cond b 1 0 + 0 < 1 → is_some (option_or o None) ≡ true
last_misses true o h few = absurd (omega (arith, few))
last_misses false o h few = or_first o None (h refl)

one_misses : (b : Bool) (n most : ℕ) (o rest : Option Principal) → (b ≡ false → is_some o ≡ true) → (n < most → is_some rest ≡ true) → cond b 1 0 + n < suc most → is_some (option_or o rest) ≡ true
one_misses true n most o rest h others few = or_there o rest (others (omega (arith, few)))
one_misses false n most o rest h others few = or_first o rest (h refl)

gate_misses : (n most : ℕ) (members : Trees) (signers : List Identity) (used : List Bool) → n ≤ most → ((evaluate_all members signers used).0 < most → is_some (first_missing members signers used) ≡ true)
    → (evaluate (gate n members) signers used).0 ≡ false → is_some (missing_from (gate n members) signers used) ≡ true
gate_misses n most members signers used le misses e =
    let few = too_few n used (evaluate_all members signers used) e in
    failed (evaluate (gate n members) signers used).0 (first_missing members signers used) e (misses (omega (arith, few, le)))

mutual
  missing_if : {t : Tree} {ts : List Token} → Spells t ts → (signers : List Identity) (used : List Bool) → (evaluate t signers used).0 ≡ false → is_some (missing_from t signers used) ≡ true
  missing_if (principal_is {org} {role}) signers used e = not_taken (record { org = org; role = role }) used (first_free org role signers used) e
  missing_if (all_is {members} {ts} m) signers used e = gate_misses (count members) (count members) members signers used (omega arith) (λ few. first_missing_if m signers used few) e
  missing_if (any_is {members} {ts} m) signers used e = gate_misses 1 (count members) members signers used (some_count m) (λ few. first_missing_if m signers used few) e
  missing_if (out_of_is {n} {members} {ts} least most m) signers used e = gate_misses n (count members) members signers used most (λ few. first_missing_if m signers used few) e

  first_missing_if : {members : Trees} {ts : List Token} → SpellsMembers members ts → (signers : List Identity) (used : List Bool) → (evaluate_all members signers used).0 < count members
      → is_some (first_missing members signers used) ≡ true
  first_missing_if (last_is {t} {ts} s) signers used few = last_misses (evaluate t signers used).0 (missing_from t signers used) (λ e. missing_if s signers used e) few
  first_missing_if (more_are {t} {members} {ts} {us} s m) signers used few =
      let after : List Bool = (evaluate t signers used).1 in
      one_misses (evaluate t signers used).0 (evaluate_all members signers after).0 (count members) (missing_from t signers used) (first_missing members signers after)
      (λ e. missing_if s signers used e) (λ fewer. first_missing_if m signers after fewer) few

pub one_is_missing : (policy : Tree) (signers : List Identity) → IsSpelled policy → is_satisfied policy signers ≡ false → is_some (missing_from policy signers (none_used signers)) ≡ true
one_is_missing policy signers spelled e = missing_if spelled.policy.spells signers (none_used signers) e

-- and those who satisfy it leave out nobody
pub none_is_missing : (policy : Tree) (signers : List Identity) → is_satisfied policy signers ≡ true → missing_from policy signers (none_used signers) ≡ None
none_is_missing (principal org role) signers e = by (first_free org role signers (none_used signers)) e
  where
    by : (place : Option ℕ) → (taken (none_used signers) place).0 ≡ true → ◌≡◌ {A = Option Principal} (cond (is_some place) None (Some (record { org = org; role = role }))) None
    by None e = absurd cc
    by (Some place) e = refl
none_is_missing (gate n members) signers e = ap (λ (b : Bool). cond b None (first_missing members signers (none_used signers))) e
