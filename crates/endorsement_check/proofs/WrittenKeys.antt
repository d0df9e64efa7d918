-- The rule over the keys that a candidate writes, in their order.
use Rattle.std.proofs.Common.{◌≡◌, ℕ, zero, suc, ◌<◌, Bool, true, false, not, ◌&&◌, ◌||◌, List, [], ◌∷◌, length, get_or, drop, drop-cons, map, Option, Some, None, refl, sym, ap, subst, ◌∙◌, All}
use Rattle.std.specs.Prelude.{IsSome}
use Rattle.std.specs.List.{list_any, list_all, Contains, slice_get}
use Rattle.std.specs.Str.{bytes_eq}
use Rattle.std.specs.FinMap.{get}
use Rattle.std.proofs.lemmas.List.Elements.{All-contains, All-weaker}
use Rattle.transaction.specs.declared.identity.Identity.{Identity}
use Rattle.rules.specs.State.{StateKey, is_among, is_same_key, policy_in}
use Rattle.rules.specs.Effect.{written_keys}
use Rattle.rules.specs.Endorsement.{meets, governing, may_write}
use Rattle.rules.specs.Job.{Job, candidate_at, touched_by, operated_by, endorsement_by, endorsement}
use Rattle.rules.specs.Assignment.{Assignment, touched_under, endorsement_under}
use Rattle.rules.specs.Sure.{Agrees, Sure}
use Rattle.rules.specs.Depends.{EndorsementDepends}
use Rattle.rules.proofs.Booleans.{or-true, and-false}
use Rattle.rules.proofs.Keys.{same_as_itself}
use Rattle.rules.proofs.Locality.{passed_by}
use Rattle.candidates.specs.declared.written_key.WrittenKey.{WrittenKey}
use Rattle.candidates.specs.declared.open_tx.OpenTx.{OpenTx}
use Rattle.candidates.specs.Written.{keys_in_order}
use Rattle.candidates.proofs.KeysInOrder.{keys_stay}
use Rattle.key_chains.specs.declared.decision.Decision.{Decision}
use Rattle.key_chains.specs.declared.decision.Decision.TheVariants as decision
use Rattle.key_chains.specs.Decided.{MatchDecision}
use Rattle.key_chains.specs.Known.{Known, Grows}
use Rattle.key_chains.specs.Job.{IsOpened, written_by}
use Rattle.key_chains.specs.PolicyWriters.{policy_writers}
use Rattle.endorsement_check.proofs.ByWriters.{IsWriter, all_writers, touched_by_writers}

and_true : (b : Bool) → (b && true) ≡ b
and_true true = refl
and_true false = refl

-- ---- lists with the same keys

-- tests that hold at the same time are one
same_test : (a b : Bool) → (a ≡ true → b ≡ true) → (b ≡ true → a ≡ true) → a ≡ b
same_test true b to from = sym (to refl)
same_test false true to from = from refl
same_test false false to from = refl

-- one that passes
one_passing : (p : StateKey → Bool) (ks : List StateKey) → list_any p ks ≡ true → (k : StateKey) × (is_among k ks ≡ true) × (p k ≡ true)
one_passing p [] some = absurd cc
one_passing p (x ∷ ks) some = by (p x) refl some (one_passing p ks)
  where
    by : (b : Bool) → p x ≡ b → (b || list_any p ks) ≡ true → (list_any p ks ≡ true → (k : StateKey) × (is_among k ks ≡ true) × (p k ≡ true)) → (k : StateKey) × (is_among k (x ∷ ks) ≡ true) × (p k ≡ true)
    by true e some later = (x, ap (λ (b : Bool). b || is_among x ks) (same_as_itself x), e)
    by false e some later = let one = later some in (one.0, ap (λ (b : Bool). is_same_key one.0 x || b) one.1 ∙ or-true (is_same_key one.0 x), one.2)

abbrev SameKeys : List StateKey → List StateKey → Type 0
SameKeys ks ls = (k : StateKey) → is_among k ks ≡ is_among k ls

passes_too : (p : StateKey → Bool) (ks ls : List StateKey) → SameKeys ks ls → list_any p ks ≡ true → list_any p ls ≡ true
passes_too p ks ls same some = let one = one_passing p ks some in passed_by p one.0 ls one.2 (sym (same one.0) ∙ one.1)

any_same : (p : StateKey → Bool) (ks ls : List StateKey) → SameKeys ks ls → list_any p ks ≡ list_any p ls
any_same p ks ls same = same_test (list_any p ks) (list_any p ls) (passes_too p ks ls same) (passes_too p ls ks (λ k. sym (same k)))

-- all pass if none fails
none_fails : (p : StateKey → Bool) (ks : List StateKey) → list_all p ks ≡ not (list_any (λ k. not (p k)) ks)
none_fails p [] = refl
none_fails p (k ∷ ks) = ap (λ (b : Bool). p k && b) (none_fails p ks) ∙ by (p k)
  where
    by : (b : Bool) → (b && not (list_any (λ k. not (p k)) ks)) ≡ not (not b || list_any (λ k. not (p k)) ks)
    by true = refl
    by false = refl

all_same : (p : StateKey → Bool) (ks ls : List StateKey) → SameKeys ks ls → list_all p ks ≡ list_all p ls
all_same p ks ls same = none_fails p ks ∙ ap (λ (b : Bool). not b) (any_same (λ k. not (p k)) ks ls same) ∙ sym (none_fails p ls)

pub all_in_order : (p : StateKey → Bool) (ks : List StateKey) → list_all p (keys_in_order ks) ≡ list_all p ks
all_in_order p ks = all_same p (keys_in_order ks) ks (λ k. keys_stay k ks)

pub any_in_order : (p : StateKey → Bool) (ks : List StateKey) → list_any p (keys_in_order ks) ≡ list_any p ks
any_in_order p ks = any_same p (keys_in_order ks) ks (λ k. keys_stay k ks)

-- ---- what the rule at one of them depends on

among_at : (ks : List StateKey) (n : ℕ) (k : StateKey) → slice_get ks n ≡ Some k → is_among k ks ≡ true
among_at [] n k e = absurd cc
among_at (x ∷ ks) zero k e = let same : x ≡ k = cc in ap (λ (y : StateKey). is_same_key k y || is_among k ks) same ∙ ap (λ (b : Bool). b || is_among k ks) (same_as_itself k)
among_at (x ∷ ks) (suc n) k e = ap (λ (b : Bool). is_same_key k x || b) (among_at ks n k e) ∙ or-true (is_same_key k x)

module _ (j : Job) (i place : ℕ) (k : StateKey) (is : slice_get (written_by (candidate_at j i)) place ≡ Some k) (ws : List ℕ) (all : ws ≡ policy_writers j.candidates k i) where
  are_writers : All (IsWriter j k i) ws
  are_writers = subst (λ (l : List ℕ). All (IsWriter j k i) l) (sym all) (all_writers j k i)

  pub earlier_writers : All (λ h. h < i) ws
  earlier_writers = All-weaker (IsWriter j k i) (λ h. h < i) (λ h of. of.0) ws are_writers

  pub depends : (h : ℕ) → Contains ws h → EndorsementDepends j i h
  depends h has =
      let of = All-contains (IsWriter j k i) ws h are_writers has in
      let its : is_among k (operated_by (candidate_at j i)) ≡ true = sym (keys_stay k (operated_by (candidate_at j i))) ∙ among_at (written_by (candidate_at j i)) place k is in
      (of.0, passed_by (λ x. is_among x (operated_by (candidate_at j i))) k (touched_by (candidate_at j h)) its of.1)

  -- if its policy is met, the key may be written if none of them passed
  pub sure_write : (signers : List Identity) (known : ℕ → Option Bool) (touched : Bool) → meets signers (governing j.definitions k.0 (policy_in j.state k)) ≡ true
      → Sure (λ called _. list_any called ws) known i touched → Sure (λ called n. may_write j.definitions j.state (touched_under j called n) signers k) known i (not touched)
  sure_write signers known touched met sure called agrees =
      ap (λ (b : Bool). not (is_among k (touched_under j called i)) && b) met
      ∙ and_true (not (is_among k (touched_under j called i)))
      ∙ ap (λ (b : Bool). not b) (touched_by_writers j k called i ∙ ap (list_any called) (sym all) ∙ sure called agrees)

-- ---- the loop over them

-- one more is tested
pub one_tested : (test : Assignment → StateKey → Bool) (old new : ℕ → Option Bool) (i : ℕ) (written : List WrittenKey) (n : ℕ) (w : WrittenKey) (b : Bool) → ((h : ℕ) (x : Bool) → old h ≡ Some x → new h ≡ Some x)
    → n < length written → w ≡ get_or written n w
    → ((called : Assignment) → Agrees old i called → list_all (test called) (map (λ x. x.key) written) ≡ list_all (test called) (map (λ x. x.key) (drop n written)))
    → ((called : Assignment) → Agrees new i called → test called w.key ≡ b)
    → (called : Assignment) → Agrees new i called → list_all (test called) (map (λ x. x.key) written) ≡ (b && list_all (test called) (map (λ x. x.key) (drop (suc n) written)))
one_tested test old new i written n w b stays within is left here called agrees =
    left called (λ h x earlier said. agrees h x earlier (stays h x said))
    ∙ ap (λ (ws : List WrittenKey). list_all (test called) (map (λ x. x.key) ws)) (drop-cons written n w within)
    ∙ ap (λ (x : WrittenKey). test called x.key && list_all (test called) (map (λ x. x.key) (drop (suc n) written))) (sym is)
    ∙ ap (λ (c : Bool). c && list_all (test called) (map (λ x. x.key) (drop (suc n) written))) (here called agrees)

-- ---- the whole rule

module _ (j : Job) (i : ℕ) (o : OpenTx) where
  -- whether each key may be written, and whether the named chaincode's policy holds, if these keys were touched
  abbrev all_may : List StateKey → List StateKey → Bool
  all_may t ks = list_all (may_write j.definitions j.state t o.signers) ks

  abbrev named : List StateKey → Bool
  named ks = list_any (λ k. bytes_eq o.tx.chaincode k.0) ks || meets o.signers (get j.definitions o.tx.chaincode)

  endorsed_by_keys : (t : List StateKey) → map (λ w. w.key) o.written.items ≡ keys_in_order (written_keys o.tx) → IsOpened j i o
      → endorsement j i t ≡ (all_may t (written_by (candidate_at j i)) && named (map (λ w. w.key) o.written.items))
  endorsed_by_keys t keys opened =
      ap (endorsement_by j.admin j.definitions j.state t) opened
      ∙ (λ x. sym (all_in_order (may_write j.definitions j.state t o.signers) (written_keys o.tx)) x && (sym (any_in_order (λ k. bytes_eq o.tx.chaincode k.0) (written_keys o.tx)) x || meets o.signers (get j.definitions o.tx.chaincode)))
      ∙ (λ x. all_may t (ap written_by (sym opened) x) && named (sym keys x))

  pub chaincode_fails : (called : Assignment) → map (λ w. w.key) o.written.items ≡ keys_in_order (written_keys o.tx) → IsOpened j i o → named (map (λ w. w.key) o.written.items) ≡ false → endorsement_under j called i ≡ false
  chaincode_fails called keys opened fails =
      let all = all_may (touched_under j called i) (written_by (candidate_at j i)) in
      endorsed_by_keys (touched_under j called i) keys opened ∙ ap (λ (b : Bool). all && b) fails ∙ and-false all

  pub decided_by_keys : (known : ℕ → Option Bool) (d : Decision Bool) (W : ℕ → Type 0) → map (λ w. w.key) o.written.items ≡ keys_in_order (written_keys o.tx) → IsOpened j i o → named (map (λ w. w.key) o.written.items) ≡ true
      → MatchDecision d (λ v. Sure (λ called n. all_may (touched_under j called n) (written_by (candidate_at j i))) known i v) W → MatchDecision d (λ v. Sure (endorsement_under j) known i v) W
  decided_by_keys known (decision.Sure v) W keys opened passes sure = λ called agrees.
      let all = all_may (touched_under j called i) (written_by (candidate_at j i)) in
      endorsed_by_keys (touched_under j called i) keys opened ∙ ap (λ (b : Bool). all && b) passes ∙ and_true all ∙ sure called agrees
  decided_by_keys known (decision.Blocked h) W keys opened passes waits = waits

-- if all earlier ones are known, none is waited for
pub none_waited_for : (i : ℕ) (old new : Known) (d : Decision Bool) (P : Bool → Type 0) (Q : ℕ → Type 0) → Grows old new → MatchDecision d P (λ h. ((h < i) × Q h) × (new.endorsed h ≡ None))
    → ((h : ℕ) → h < i → IsSome (old.endorsed h)) → MatchDecision d (λ _. Unit {0}) (λ _. ⊥)
none_waited_for i old new (decision.Sure v) P Q grows decided known = tt
none_waited_for i old new (decision.Blocked h) P Q grows decided known = by (old.endorsed h) refl (known h decided.0.0)
  where
    by : (o : Option Bool) → old.endorsed h ≡ o → IsSome o → ⊥
    by None is some = absurd cc
    by (Some b) is some = let there = grows.endorsed h b is in let none = decided.1 in absurd cc
