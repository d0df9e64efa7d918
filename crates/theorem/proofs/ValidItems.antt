-- Valid items, and what tests they have passed.
use Rattle.std.proofs.Common.{◌≡◌, ◌≢◌, ◌↔◌, Bool, true, false, not, ◌||◌, List, [], ◌∷◌, refl, ap, ◌∙◌}
use Rattle.std.specs.Prelude.{◌&&◌, if◌then◌else◌, is_some}
use Rattle.std.specs.List.{list_all}
use Rattle.std.specs.FinMap.{get, contains_key}
use Rattle.transaction.specs.declared.item.Item.{Item}
use Rattle.transaction.specs.declared.item.Item.TheVariants as item
use Rattle.transaction.specs.declared.transaction.Tx.{Tx}
use Rattle.transaction.specs.declared.update.Update.{Update}
use Rattle.policy.specs.Meaning.{policy_of}
use Rattle.policy_eval.specs.Signers.{signers_of}
use Rattle.rules.specs.declared.flag.Flag.TheVariants.{Valid}
use Rattle.rules.specs.declared.read_verdict.ReadVerdict.{ReadVerdict}
use Rattle.rules.specs.declared.read_verdict.ReadVerdict.TheVariants.{Good, Stale, Phantom}
use Rattle.rules.specs.Flags.{is_valid}
use Rattle.rules.specs.State.{StateKey, is_same_key, is_among, policy_in}
use Rattle.rules.specs.Effect.{written_keys}
use Rattle.rules.specs.Reads.{read_verdict}
use Rattle.rules.specs.Endorsement.{may_write, has_writes, meets, governing}
use Rattle.rules.specs.Candidate.{origin_of, is_defined}
use Rattle.rules.specs.Job.{read_flag}
use Rattle.rules.proofs.Booleans.{both_true}
use Rattle.rules.proofs.Keys.{same_key_is}
use Rattle.theorem.specs.Serial.{Setting, SoFar, Tests, first_failed, all_pass, tests}

-- no test gives an item that fails it the flag valid
abbrev AreHonest : Tests → Type 0
AreHonest [] = Unit {0}
AreHonest (t ∷ ts) = (t.0 ≡ false → t.1 ≢ Valid) × AreHonest ts

honest_read : (v : ReadVerdict) → is_valid (read_flag v) ≡ false → read_flag v ≢ Valid
honest_read Good e = absurd cc
honest_read Stale e = λ wrong. absurd cc
honest_read Phantom e = λ wrong. absurd cc

are_honest : (s : Setting) (now : SoFar) (i : Item) → AreHonest (tests s now i)
are_honest s now (item.Tx tx) = ((λ e wrong. absurd cc), ((λ e wrong. absurd cc), ((λ e wrong. absurd cc), ((λ e wrong. absurd cc), ((λ e wrong. absurd cc), ((λ e wrong. absurd cc), ((λ e wrong. absurd cc), (honest_read (read_verdict now.state tx), tt))))))))
are_honest s now (item.Update u) = ((λ e wrong. absurd cc), ((λ e wrong. absurd cc), ((λ e wrong. absurd cc), ((λ e wrong. absurd cc), ((λ e wrong. absurd cc), ((λ e wrong. absurd cc), tt))))))

passed : (ts : Tests) → AreHonest ts → first_failed ts ≡ Valid → all_pass ts ≡ true
passed [] h valid = refl
passed (t ∷ ts) h valid = by (passed ts h.1) t.0 refl valid
  where
    by : (first_failed ts ≡ Valid → all_pass ts ≡ true) → (b : Bool) → t.0 ≡ b → (if b then first_failed ts else t.1) ≡ Valid → (b && all_pass ts) ≡ true
    by rest true e valid = rest valid
    by rest false e valid = absurd (h.0 e valid)

failed_none : (ts : Tests) → all_pass ts ≡ true → first_failed ts ≡ Valid
failed_none [] all = refl
failed_none (t ∷ ts) all = let both = both_true t.0 (all_pass ts) all in ap (λ (b : Bool). if b then first_failed ts else t.1) both.0 ∙ failed_none ts both.1

-- each test by itself
abbrev Passed : Tests → Type 0
Passed [] = Unit {0}
Passed (t ∷ ts) = (t.0 ≡ true) × Passed ts

each_passed : (ts : Tests) → all_pass ts ≡ true → Passed ts
each_passed [] all = tt
each_passed (t ∷ ts) all = let both = both_true t.0 (all_pass ts) all in (both.0, each_passed ts both.1)

not_true : (b : Bool) → not b ≡ true → b ≡ false
not_true true e = absurd cc
not_true false e = refl

-- what holds of each key holds of one that is among them
among_each : (f : StateKey → Bool) (k : StateKey) (ks : List StateKey) → list_all f ks ≡ true → is_among k ks ≡ true → f k ≡ true
among_each f k [] all among = absurd cc
among_each f k (x ∷ ks) all among = by (among_each f k ks (both_true (f x) (list_all f ks) all).1) (is_same_key k x) refl among
  where
    by : (is_among k ks ≡ true → f k ≡ true) → (b : Bool) → is_same_key k x ≡ b → (b || is_among k ks) ≡ true → f k ≡ true
    by rest true e among = ap f (same_key_is k x e) ∙ (both_true (f x) (list_all f ks) all).0
    by rest false e among = rest among

module _ (s : Setting) (now : SoFar) where
  pub valid_passes : (i : Item) → first_failed (tests s now i) ≡ Valid → all_pass (tests s now i) ≡ true
  valid_passes i valid = passed (tests s now i) (are_honest s now i) valid

  pub valid_exactly : (i : Item) → (first_failed (tests s now i) ≡ Valid) ↔ (all_pass (tests s now i) ≡ true)
  valid_exactly i = (valid_passes i, failed_none (tests s now i))

  each : (i : Item) → first_failed (tests s now i) ≡ Valid → Passed (tests s now i)
  each i valid = each_passed (tests s now i) (valid_passes i valid)

  pub valid_id : (i : Item) → first_failed (tests s now i) ≡ Valid → contains_key now.first_uses (origin_of i).id ≡ false
  valid_id (item.Tx tx) valid = not_true (contains_key now.first_uses tx.id) (each (item.Tx tx) valid).1.1.1.0
  valid_id (item.Update u) valid = not_true (contains_key now.first_uses u.id) (each (item.Update u) valid).1.1.1.0

  pub valid_alone : (u : Update) → first_failed (tests s now (item.Update u)) ≡ Valid → s.alone ≡ true
  valid_alone u valid =
      let all = (each (item.Update u) valid).1.1.1.1.0 in
      let three = (both_true (s.alone && is_some s.admin && is_defined s.policies_before u.namespace) (is_some (policy_of u.policy)) all).0 in
      let two = (both_true (s.alone && is_some s.admin) (is_defined s.policies_before u.namespace) three).0 in
      (both_true s.alone (is_some s.admin) two).0

  pub valid_keys : (tx : Tx) (k : StateKey) → first_failed (tests s now (item.Tx tx)) ≡ Valid → is_among k (written_keys tx) ≡ true → is_among k now.policy_written ≡ false
  valid_keys tx k valid among =
      let signers = signers_of s.accepts tx in
      let may = may_write s.policies_before s.state_before now.policy_written signers in
      let endorsed = (each (item.Tx tx) valid).1.1.1.1.1.1.0 in
      let keys = (both_true (list_all may (written_keys tx)) (has_writes tx tx.chaincode || meets signers (get s.policies_before tx.chaincode)) endorsed).0 in
      let own = among_each may k (written_keys tx) keys among in
      not_true (is_among k now.policy_written) (both_true (not (is_among k now.policy_written)) (meets signers (governing s.policies_before k.0 (policy_in s.state_before k))) own).0
