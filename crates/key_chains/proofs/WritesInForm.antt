-- What a transaction in form does to a key is found where the key is among those that it writes.
use Rattle.std.proofs.Common.{◌≡◌, ℕ, Bool, true, false, cond, not, ◌&&◌, ◌||◌, List, [], ◌∷◌, ◌++◌, map, Option, Some, None, refl, sym, ap, ◌∙◌}
use Rattle.std.specs.Prelude.{option_and_then, find, flat_map, is_some, IsTrue}
use Rattle.std.specs.Str.{bytes_eq}
use Rattle.std.specs.List.{list_any, list_all}
use Rattle.std.specs.Cmp.Lexicographic.{bytes_decides}
use Rattle.std.proofs.lemmas.List.Folds.{list_any-append}
use Rattle.std.proofs.lemmas.List.Concat.{flat_map-cons}
use Rattle.transaction.specs.declared.transaction.Write.{Write}
use Rattle.transaction.specs.declared.transaction.PolicyWrite.{PolicyWrite}
use Rattle.transaction.specs.declared.transaction.NsSet.{NsSet}
use Rattle.transaction.specs.declared.transaction.Tx.{Tx}
use Rattle.rules.specs.State.{StateKey, is_same_key, is_among}
use Rattle.rules.specs.Effect.{write_of, policy_write_of, value_keys_in, policy_keys_in, policy_keys, written_keys}
use Rattle.rules.specs.ReadWriteSets.{are_distinct, is_set_in_form, is_in_form}
use Rattle.rules.proofs.Booleans.{both_true, neither}

abbrev pub hit_in : (NsSet → Bool) → Option NsSet → Bool
hit_in hit None = false
hit_in hit (Some n) = hit n

not_true : (a : Bool) → not a ≡ true → a ≡ false
not_true true e = absurd cc
not_true false e = refl

module _ (keys_in : NsSet → List StateKey) (hit : NsSet → Bool) (k : StateKey) (own : (n : NsSet) → is_among k (keys_in n) ≡ (bytes_eq k.0 n.name && hit n)) where
  first : (n : NsSet) (ns : List NsSet) → is_among k (flat_map keys_in (n ∷ ns)) ≡ ((bytes_eq k.0 n.name && hit n) || is_among k (flat_map keys_in ns))
  first n ns =
      ap (is_among k) (flat_map-cons keys_in n ns) ∙ list_any-append (is_same_key k) (keys_in n) (flat_map keys_in ns)
      ∙ ap (λ (b : Bool). b || is_among k (flat_map keys_in ns)) (own n)

  -- nothing in namespaces of other names
  elsewhere : (ns : List NsSet) → list_any (bytes_eq k.0) (map (λ n. n.name) ns) ≡ false → is_among k (flat_map keys_in ns) ≡ false
  elsewhere [] none = refl
  elsewhere (n ∷ ns) none =
      let h = neither (bytes_eq k.0 n.name) (list_any (bytes_eq k.0) (map (λ m. m.name) ns)) none in
      first n ns ∙ ap (λ (b : Bool). (b && hit n) || is_among k (flat_map keys_in ns)) h.0 ∙ elsewhere ns h.1

  -- where names differ, only the first namespace of the name counts
  pub among_found : (ns : List NsSet) → are_distinct (map (λ n. n.name) ns) ≡ true → is_among k (flat_map keys_in ns) ≡ hit_in hit (find (λ n. bytes_eq k.0 n.name) ns)
  among_found [] distinct = refl
  among_found (n ∷ ns) distinct =
      let d = both_true (not (list_any (bytes_eq n.name) (map (λ m. m.name) ns))) (are_distinct (map (λ m. m.name) ns)) distinct in
      first n ns ∙ by (not_true (list_any (bytes_eq n.name) (map (λ m. m.name) ns)) d.0) (among_found ns d.1) (bytes_eq k.0 n.name) refl
    where
      by : list_any (bytes_eq n.name) (map (λ m. m.name) ns) ≡ false → is_among k (flat_map keys_in ns) ≡ hit_in hit (find (λ m. bytes_eq k.0 m.name) ns) → (b : Bool) → bytes_eq k.0 n.name ≡ b
          → ((b && hit n) || is_among k (flat_map keys_in ns)) ≡ hit_in hit (cond b (Some n) (find (λ m. bytes_eq k.0 m.name) ns))
      by apart later true e =
          let same : k.0 ≡ n.name = (bytes_decides k.0 n.name).0 e in
          let none = elsewhere ns (ap (λ (name : List ℕ). list_any (bytes_eq name) (map (λ m. m.name) ns)) same ∙ apart) in
          ap (λ (b : Bool). hit n || b) none ∙ or_false (hit n)
        where
          or_false : (b : Bool) → (b || false) ≡ b
          or_false true = refl
          or_false false = refl
      by apart later false e = later

-- ---- in one namespace

module _ {W : Type 0} (key : W → List ℕ) (k : StateKey) where
  pub hits : List W → Bool
  hits ws = list_any (λ w. bytes_eq k.1 (key w)) ws

  pub in_one : (namespace : List ℕ) (ws : List W) → is_among k (map (λ w. (namespace, key w)) ws) ≡ (bytes_eq k.0 namespace && hits ws)
  unfolding hits
  in_one namespace ws = by (bytes_eq k.0 namespace) ws refl
    where
      by : (b : Bool) (ws : List W) → bytes_eq k.0 namespace ≡ b → is_among k (map (λ w. (namespace, key w)) ws) ≡ (b && list_any (λ w. bytes_eq k.1 (key w)) ws)
      by true [] e = refl
      by true (w ∷ ws) e = (λ i. (e i && bytes_eq k.1 (key w)) || by true ws e i)
      by false [] e = refl
      by false (w ∷ ws) e = (λ i. (e i && bytes_eq k.1 (key w)) || by false ws e i)

  pub found : (ws : List W) → is_some (find (λ w. bytes_eq k.1 (key w)) ws) ≡ hits ws
  unfolding hits
  found [] = refl
  found (w ∷ ws) = by (bytes_eq k.1 (key w)) (found ws)
    where
      by : (b : Bool) → is_some (find (λ x. bytes_eq k.1 (key x)) ws) ≡ list_any (λ x. bytes_eq k.1 (key x)) ws → is_some (cond b (Some w) (find (λ x. bytes_eq k.1 (key x)) ws)) ≡ (b || list_any (λ x. bytes_eq k.1 (key x)) ws)
      by true e = refl
      by false e = e

names_differ : (tx : Tx) → IsTrue (is_in_form tx) → are_distinct (map (λ n. n.name) tx.namespaces) ≡ true
names_differ tx form = (both_true (are_distinct (map (λ n. n.name) tx.namespaces)) (list_all is_set_in_form tx.namespaces) form).0

abbrev value_hits : StateKey → NsSet → Bool
value_hits k n = hits (λ (w : Write). w.key) k n.writes

abbrev policy_hits : StateKey → NsSet → Bool
policy_hits k n = hits (λ (w : PolicyWrite). w.key) k n.policy_writes

both_hit : (a b c : Bool) → ((a && b) || (a && c)) ≡ (a && (b || c))
both_hit true b c = refl
both_hit false b c = refl

writes_in : (k : StateKey) (o : Option NsSet) → is_some (option_and_then (λ n. find (λ w. bytes_eq k.1 w.key) n.writes) o) ≡ hit_in (value_hits k) o
writes_in k None = refl
writes_in k (Some n) = found (λ (w : Write). w.key) k n.writes

policies_in : (k : StateKey) (o : Option NsSet) → is_some (option_and_then (λ n. find (λ w. bytes_eq k.1 w.key) n.policy_writes) o) ≡ hit_in (policy_hits k) o
policies_in k None = refl
policies_in k (Some n) = found (λ (w : PolicyWrite). w.key) k n.policy_writes

either_in : (k : StateKey) (o : Option NsSet) → hit_in (λ n. value_hits k n || policy_hits k n) o ≡ (hit_in (value_hits k) o || hit_in (policy_hits k) o)
either_in k None = refl
either_in k (Some n) = refl

pub touched_where : (tx : Tx) (k : StateKey) → IsTrue (is_in_form tx) → is_among k (policy_keys tx) ≡ is_some (policy_write_of tx k)
touched_where tx k form =
    among_found policy_keys_in (policy_hits k) k (λ n. in_one (λ (w : PolicyWrite). w.key) k n.name n.policy_writes) tx.namespaces (names_differ tx form)
    ∙ sym (policies_in k (find (λ n. bytes_eq k.0 n.name) tx.namespaces))

pub written_where : (tx : Tx) (k : StateKey) → IsTrue (is_in_form tx) → is_among k (written_keys tx) ≡ (is_some (write_of tx k) || is_some (policy_write_of tx k))
written_where tx k form =
    among_found (λ n. value_keys_in n ++ policy_keys_in n) (λ n. value_hits k n || policy_hits k n) k own tx.namespaces (names_differ tx form)
    ∙ either_in k o
    ∙ sym (λ i. writes_in k o i || policies_in k o i)
  where
    o : Option NsSet
    o = find (λ n. bytes_eq k.0 n.name) tx.namespaces

    own : (n : NsSet) → is_among k (value_keys_in n ++ policy_keys_in n) ≡ (bytes_eq k.0 n.name && (value_hits k n || policy_hits k n))
    own n =
        list_any-append (is_same_key k) (value_keys_in n) (policy_keys_in n)
        ∙ (λ i. in_one (λ (w : Write). w.key) k n.name n.writes i || in_one (λ (w : PolicyWrite). w.key) k n.name n.policy_writes i)
        ∙ both_hit (bytes_eq k.0 n.name) (value_hits k n) (policy_hits k n)
