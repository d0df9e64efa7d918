-- What an open transaction writes, one key after the other.
use Rattle.std.proofs.Common.{◌≡◌, ℕ, zero, suc, ◌<◌, Bool, cond, true, false, ◌||◌, List, [], ◌∷◌, length, get_or, map, All, Option, Some, None, refl, sym, ap, subst, ◌∙◌, arith}
use Rattle.std.specs.Prelude.{option_map, slice_get, is_some, IsSome}
use Rattle.transaction.specs.declared.transaction.Write.{Write}
use Rattle.transaction.specs.declared.transaction.PolicyWrite.{PolicyWrite}
use Rattle.policy.specs.Tree.{Tree}
use Rattle.rules.specs.State.{StateKey, is_same_key, is_among}
use Rattle.rules.specs.Candidate.{Candidate, opened}
use Rattle.rules.specs.Job.{touched_by}
use Rattle.rules.specs.Effect.{written_keys, write_of, policy_write_of, policy_left}
use Rattle.rules.proofs.Keys.{same_as_itself}
use Rattle.rules.proofs.Booleans.{or-true}
use Rattle.candidates.specs.declared.open_tx.OpenTx.{OpenTx}
use Rattle.candidates.specs.declared.written_key.WrittenKey.{WrittenKey}
use Rattle.candidates.specs.Written.{value_at, policy_at}
use Rattle.candidates.proofs.KeysInOrder.{keys_stay}
use Rattle.key_chains.specs.Numbers.{number_in}
use Rattle.key_chains.specs.Operations.{candidate_in, kind_of, kind_by, kind_from}
use Rattle.key_chains.specs.Job.{written_by}
use Rattle.key_chains.specs.Building.{keys_written}
use Rattle.key_chains.specs.Built.{AreNext}
use Rattle.key_chains.proofs.WritesInForm.{written_where, touched_where}

pub among_at : (ks : List StateKey) (n : ℕ) (d : StateKey) → n < length ks → is_among (get_or ks n d) ks ≡ true
among_at [] n d lt = absurd (omega arith)
among_at (k ∷ ks) zero d lt = ap (λ (b : Bool). b || is_among k ks) (same_as_itself k)
among_at (k ∷ ks) (suc n) d lt = ap (λ (b : Bool). is_same_key (get_or ks n d) k || b) (among_at ks n d (omega arith)) ∙ or-true (is_same_key (get_or ks n d) k)

pub at_place : {A B : Type 0} (f : A → B) (xs : List A) (n : ℕ) (d : A) → n < length xs → slice_get (map f xs) n ≡ Some (f (get_or xs n d))
at_place f [] n d lt = absurd (omega arith)
at_place f (x ∷ xs) zero d lt = refl
at_place f (x ∷ xs) (suc n) d lt = at_place f xs n d (omega arith)

pub key_at : (ws : List WrittenKey) (n : ℕ) (d : WrittenKey) → n < length ws → is_among (get_or ws n d).key (map (λ w. w.key) ws) ≡ true
key_at [] n d lt = absurd (omega arith)
key_at (w ∷ ws) zero d lt = ap (λ (b : Bool). b || is_among w.key (map (λ x. x.key) ws)) (same_as_itself w.key)
key_at (w ∷ ws) (suc n) d lt = ap (λ (b : Bool). is_same_key (get_or ws n d).key w.key || b) (key_at ws n d (omega arith)) ∙ or-true (is_same_key (get_or ws n d).key w.key)

-- a key that is among others has a number
more : (o : Option ℕ) → IsSome o → IsSome (option_map suc o)
more None h = h
more (Some n) h = h

number_by : (k x : StateKey) (ks : List StateKey) → (is_among k ks ≡ true → IsSome (number_in ks k)) → (b : Bool) → (b || is_among k ks) ≡ true → IsSome (cond b (Some 0) (option_map suc (number_in ks k)))
number_by k x ks later true e = refl
number_by k x ks later false e = more (number_in ks k) (later e)

pub has_number : (ks : List StateKey) (k : StateKey) → is_among k ks ≡ true → IsSome (number_in ks k)
has_number [] k e = absurd cc
has_number (x ∷ ks) k e = number_by k x ks (has_number ks k) (is_same_key k x) e

kind_is : (o : Option Write) (p : Option PolicyWrite) (value : Option (Option (List ℕ))) → value ≡ option_map (λ w. w.value) o → (is_some o || is_some p) ≡ true → kind_from o p ≡ Some (kind_of value)
kind_is (Some x) p value e some = ap (λ v. Some (kind_of v)) (sym e)
kind_is None (Some x) value e some = ap (λ v. Some (kind_of v)) (sym e)
kind_is None None value e some = absurd cc

touches_is : (p : Option PolicyWrite) (policy : Option (Option Tree)) → policy ≡ option_map policy_left p → is_some p ≡ is_some policy
touches_is (Some x) policy e = sym (ap is_some e)
touches_is None policy e = sym (ap is_some e)

module _ (cs : List Candidate) (i : ℕ) (o : OpenTx) (is : candidate_in cs i ≡ opened o.tx o.signers) where
  pub keys_are : keys_written cs i ≡ map (λ w. w.key) o.written.items
  keys_are = ap written_by is ∙ sym o.writes.keys

  pub all_next : AreNext cs i o.written.items
  all_next p w lt e = record {
    place = ap (λ (ks : List StateKey). slice_get ks p) keys_are ∙ at_place (λ x. x.key) o.written.items p w lt ∙ ap (λ x. Some x.key) (sym e);
    kind = ap (λ (c : Candidate). kind_by c w.key) is ∙ kind_is (write_of o.tx w.key) (policy_write_of o.tx w.key) w.value right.0 (sym (written_where o.tx w.key o.in_form) ∙ among);
    touches = ap (λ (c : Candidate). is_among w.key (touched_by c)) is ∙ touched_where o.tx w.key o.in_form ∙ touches_is (policy_write_of o.tx w.key) w.policy right.1;
  }
    where
      right : (w.value ≡ value_at o.tx w.key) × (w.policy ≡ policy_at o.tx w.key)
      right = subst (λ (x : WrittenKey). (x.value ≡ value_at o.tx x.key) × (x.policy ≡ policy_at o.tx x.key)) (sym e) (o.writes.each p w lt)

      among : is_among w.key (written_keys o.tx) ≡ true
      among = sym (keys_stay w.key (written_keys o.tx)) ∙ ap (is_among w.key) (sym o.writes.keys) ∙ ap (λ (x : WrittenKey). is_among x.key (map (λ y. y.key) o.written.items)) e ∙ key_at o.written.items p w lt

-- each key that it writes has a number, where all that its candidate writes have
pub each_numbered : (o : OpenTx) (c : Candidate) (keys : List StateKey) → c ≡ opened o.tx o.signers → ((k : StateKey) → is_among k (written_by c) ≡ true → IsSome (number_in keys k)) → All (λ w. IsSome (number_in keys w.key)) o.written.items
each_numbered o c keys is numbers n d lt =
    numbers (get_or o.written.items n d).key (
    ap (λ (x : Candidate). is_among (get_or o.written.items n d).key (written_by x)) is ∙ ap (is_among (get_or o.written.items n d).key) (sym o.writes.keys) ∙ key_at o.written.items n d lt)
