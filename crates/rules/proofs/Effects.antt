-- What a valid transaction makes of each key.
use Rattle.std.proofs.Common.{◌≡◌, ℕ, Bool, true, false, cond, ◌&&◌, List, [], ◌∷◌, ◌++◌, map, Option, Some, None, refl, sym, ap, ◌∙◌}
use Rattle.std.specs.Prelude.{if◌then◌else◌, option_and_then, find, flat_map}
use Rattle.std.specs.Str.{bytes_eq}
use Rattle.std.specs.FinMap.{get}
use Rattle.std.proofs.lemmas.List.Folds.{list_any-append}
use Rattle.std.proofs.lemmas.List.Concat.{flat_map-cons}
use Rattle.transaction.specs.declared.transaction.Version.{Version}
use Rattle.transaction.specs.declared.transaction.Write.{Write}
use Rattle.transaction.specs.declared.transaction.PolicyWrite.{PolicyWrite}
use Rattle.transaction.specs.declared.transaction.NsSet.{NsSet}
use Rattle.transaction.specs.declared.transaction.Tx.{Tx}
use Rattle.rules.specs.declared.row.Row.{Row}
use Rattle.rules.specs.State.{StateKey, State, is_same_key, is_among}
use Rattle.rules.specs.Effect.{write_of, policy_write_of, value_keys_in, policy_keys_in, written_keys, effect_at, effect}
use Rattle.rules.proofs.Booleans.{neither}
use Rattle.rules.proofs.Changes.{get-with_changes}

-- within a namespace keys are the same by their second part
pub same_in_namespace : (k : StateKey) (namespace key : List ℕ) → bytes_eq k.0 namespace ≡ true → is_same_key k (namespace, key) ≡ bytes_eq k.1 key
same_in_namespace k namespace key same = ap (λ (b : Bool). b && bytes_eq k.1 key) same

-- a key that isn't among those of a list under one namespace isn't found in it
module _ {W : Type 0} (own_key : W → List ℕ) where
  unfound : (namespace : List ℕ) (ws : List W) (k : StateKey) → bytes_eq k.0 namespace ≡ true → is_among k (map (λ w. (namespace, own_key w)) ws) ≡ false
      → find (λ w. bytes_eq k.1 (own_key w)) ws ≡ None
  unfound namespace [] k same none = refl
  unfound namespace (w ∷ ws) k same none =
      let n = neither (is_same_key k (namespace, own_key w)) (is_among k (map (λ x. (namespace, own_key x)) ws)) none in
      let apart : bytes_eq k.1 (own_key w) ≡ false = sym (same_in_namespace k namespace (own_key w) same) ∙ n.0 in
      rw apart (unfound namespace ws k same n.1)

  -- nor in any namespace
  nowhere : (rows : NsSet → List W) (all : NsSet → List StateKey) (sets : List NsSet) (k : StateKey)
      → ((n : NsSet) → is_among k (all n) ≡ false → is_among k (map (λ w. (n.name, own_key w)) (rows n)) ≡ false)
      → is_among k (flat_map all sets) ≡ false
      → option_and_then (λ n. find (λ w. bytes_eq k.1 (own_key w)) (rows n)) (find (λ n. bytes_eq k.0 n.name) sets) ≡ None
  nowhere rows all [] k part none = refl
  nowhere rows all (n ∷ sets) k part none =
      let h = neither (is_among k (all n)) (is_among k (flat_map all sets)) (sym (list_any-append (is_same_key k) (all n) (flat_map all sets)) ∙ ap (is_among k) (sym (flat_map-cons all n sets)) ∙ none) in
      by h.0 (nowhere rows all sets k part h.1) (bytes_eq k.0 n.name) refl
    where
      by : is_among k (all n) ≡ false → option_and_then (λ x. find (λ w. bytes_eq k.1 (own_key w)) (rows x)) (find (λ x. bytes_eq k.0 x.name) sets) ≡ None
          → (b : Bool) → bytes_eq k.0 n.name ≡ b
          → option_and_then (λ x. find (λ w. bytes_eq k.1 (own_key w)) (rows x)) (cond b (Some n) (find (λ x. bytes_eq k.0 x.name) sets)) ≡ None
      by here later true e = unfound n.name (rows n) k e (part n here)
      by here later false e = later

both_unwritten : (k : StateKey) (n : NsSet) → is_among k (value_keys_in n ++ policy_keys_in n) ≡ false → (is_among k (value_keys_in n) ≡ false) × (is_among k (policy_keys_in n) ≡ false)
both_unwritten k n none = neither (is_among k (value_keys_in n)) (is_among k (policy_keys_in n)) (sym (list_any-append (is_same_key k) (value_keys_in n) (policy_keys_in n)) ∙ none)

-- ---- a key that isn't written

pub write_of-unwritten : (tx : Tx) (k : StateKey) → is_among k (written_keys tx) ≡ false → write_of tx k ≡ None
write_of-unwritten tx k none =
    nowhere (λ (w : Write). w.key) (λ n. n.writes) (λ n. value_keys_in n ++ policy_keys_in n) tx.namespaces k (λ n h. (both_unwritten k n h).0) none

pub policy_write_of-unwritten : (tx : Tx) (k : StateKey) → is_among k (written_keys tx) ≡ false → policy_write_of tx k ≡ None
policy_write_of-unwritten tx k none =
    nowhere (λ (w : PolicyWrite). w.key) (λ n. n.policy_writes) (λ n. value_keys_in n ++ policy_keys_in n) tx.namespaces k (λ n h. (both_unwritten k n h).1) none

-- keeps its row
pub effect_at-unwritten : (v : Version) (tx : Tx) (k : StateKey) (row : Option Row) → is_among k (written_keys tx) ≡ false → effect_at v tx k row ≡ row
effect_at-unwritten v tx k row none = rw (write_of-unwritten tx k none, policy_write_of-unwritten tx k none) refl

-- ---- every key

at_written : (v : Version) (tx : Tx) (k : StateKey) (row : Option Row) (b : Bool) → is_among k (written_keys tx) ≡ b → (if b then effect_at v tx k row else row) ≡ effect_at v tx k row
at_written v tx k row true e = refl
at_written v tx k row false e = sym (effect_at-unwritten v tx k row e)

pub get-effect : (v : Version) (tx : Tx) (s : State) (k : StateKey) → get (effect v tx s) k ≡ effect_at v tx k (get s k)
get-effect v tx s k = get-with_changes (λ x. effect_at v tx x (get s x)) s (written_keys tx) k ∙ at_written v tx k (get s k) (is_among k (written_keys tx)) refl

pub get-effect-unwritten : (v : Version) (tx : Tx) (s : State) (k : StateKey) → is_among k (written_keys tx) ≡ false → get (effect v tx s) k ≡ get s k
get-effect-unwritten v tx s k none = get-effect v tx s k ∙ effect_at-unwritten v tx k (get s k) none
