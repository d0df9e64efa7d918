-- What a transaction writes, one by one: each is part of what it writes at its key, and all of that is included.
use Rattle.std.proofs.Common.{◌≡◌, ℕ, Bool, true, false, cond, ◌&&◌, ◌||◌, List, [], ◌∷◌, ◌++◌, map, Option, Some, None, is_some, append_assoc, refl, sym, ap, ◌∙◌}
use Rattle.std.specs.Prelude.{flat_map, option_map, option_and_then, find}
use Rattle.std.specs.Str.{bytes_eq}
use Rattle.std.specs.List.{AllByRecursion, All, list_all, list_any}
use Rattle.std.proofs.lemmas.List.Elements.{All-nil, All-append, All-map, All-from_recursion}
use Rattle.std.proofs.lemmas.List.Folds.{list_any-append}
use Rattle.transaction.specs.declared.transaction.Write.{Write}
use Rattle.transaction.specs.declared.transaction.PolicyWrite.{PolicyWrite}
use Rattle.transaction.specs.declared.transaction.NsSet.{NsSet}
use Rattle.transaction.specs.declared.transaction.Tx.{Tx}
use Rattle.rules.specs.State.{StateKey, is_same_key}
use Rattle.rules.specs.Effect.{set_of, policy_left, written_keys, value_keys_in, policy_keys_in}
use Rattle.rules.specs.ReadWriteSets.{are_distinct, has_results_in_form}
use Rattle.candidates.specs.declared.written_key.WrittenKey.{WrittenKey}
use Rattle.candidates.specs.Form.{have_lists_in_form, are_lists_in_form}
use Rattle.candidates.specs.Written.{value_at, policy_at}
use Rattle.candidates.specs.Gathering.{value_write, policy_write, writes_in, single_writes}
use Rattle.candidates.proofs.Rising.{first_holds, second_holds}
use Rattle.candidates.proofs.Found.{found}

-- what it has is the whole
abbrev pub IsPart : {A : Type 0} → Option A → Option A → Type 0
IsPart None whole = Unit {0}
IsPart (Some x) whole = whole ≡ Some x

abbrev pub IsPartOf : Tx → WrittenKey → Type 0
IsPartOf tx w = IsPart w.value (value_at tx w.key) × IsPart w.policy (policy_at tx w.key)

-- ---- each is a part

value_of_set : (tx : Tx) (n : NsSet) (ws : List Write) → set_of tx n.name ≡ Some n → AllByRecursion (λ w. find (λ x. bytes_eq w.key x.key) n.writes ≡ Some w) ws → AllByRecursion (λ w. IsPartOf tx (value_write n w)) ws
value_of_set tx n [] set h = tt
value_of_set tx n (w ∷ ws) set h =
    let there : value_at tx (n.name, w.key) ≡ Some w.value =
    ap (λ s. option_map (λ x. x.value) (option_and_then (λ (m : NsSet). find (λ x. bytes_eq w.key x.key) m.writes) s)) set ∙ ap (option_map (λ x. x.value)) h.0 in
    ((there, tt), value_of_set tx n ws set h.1)

policy_of_set : (tx : Tx) (n : NsSet) (ws : List PolicyWrite) → set_of tx n.name ≡ Some n → AllByRecursion (λ w. find (λ x. bytes_eq w.key x.key) n.policy_writes ≡ Some w) ws → AllByRecursion (λ w. IsPartOf tx (policy_write n w)) ws
policy_of_set tx n [] set h = tt
policy_of_set tx n (w ∷ ws) set h =
    let there : policy_at tx (n.name, w.key) ≡ Some (policy_left w) =
    ap (λ s. option_map policy_left (option_and_then (λ (m : NsSet). find (λ x. bytes_eq w.key x.key) m.policy_writes) s)) set ∙ ap (option_map policy_left) h.0 in
    ((tt, there), policy_of_set tx n ws set h.1)

writes_distinct : (a b c d : Bool) → (a && b && c && d) ≡ true → b ≡ true
writes_distinct true true true d h = refl
writes_distinct true true false d h = refl
writes_distinct true false c d h = cc
writes_distinct false b c d h = cc

policies_distinct : (a b c d : Bool) → (a && b && c && d) ≡ true → c ≡ true
policies_distinct true true true d h = refl
policies_distinct true true false d h = cc
policies_distinct true false c d h = cc
policies_distinct false b c d h = cc

parts_in : (tx : Tx) (n : NsSet) → set_of tx n.name ≡ Some n → have_lists_in_form n ≡ true → All (IsPartOf tx) (writes_in n)
parts_in tx n set form =
    let reads = are_distinct (map (λ r. r.key) n.reads) in
    let writes = are_distinct (map (λ w. w.key) n.writes) in
    let policies = are_distinct (map (λ w. w.key) n.policy_writes) in
    let ranges = list_all has_results_in_form n.ranges in
    All-append (IsPartOf tx) (map (value_write n) n.writes) (map (policy_write n) n.policy_writes)
    (All-map (IsPartOf tx) (value_write n) n.writes (All-from_recursion _ n.writes (value_of_set tx n n.writes set (found (λ w. w.key) n.writes (writes_distinct reads writes policies ranges form)))))
    (All-map (IsPartOf tx) (policy_write n) n.policy_writes (All-from_recursion _ n.policy_writes (policy_of_set tx n n.policy_writes set (found (λ w. w.key) n.policy_writes (policies_distinct reads writes policies ranges form)))))

parts_of : (tx : Tx) (ns : List NsSet) → AllByRecursion (λ n. set_of tx n.name ≡ Some n) ns → list_all have_lists_in_form ns ≡ true → All (IsPartOf tx) (flat_map writes_in ns)
parts_of tx [] sets form = All-nil (IsPartOf tx)
parts_of tx (n ∷ ns) sets form =
    All-append (IsPartOf tx) (writes_in n) (flat_map writes_in ns)
    (parts_in tx n sets.0 (first_holds (have_lists_in_form n) (list_all have_lists_in_form ns) form))
    (parts_of tx ns sets.1 (second_holds (have_lists_in_form n) (list_all have_lists_in_form ns) form))

pub single_writes_are_parts : (tx : Tx) → are_lists_in_form tx ≡ true → All (IsPartOf tx) (single_writes tx)
single_writes_are_parts tx form =
    let names = are_distinct (map (λ n. n.name) tx.namespaces) in
    parts_of tx tx.namespaces (found (λ n. n.name) tx.namespaces (first_holds names (list_all have_lists_in_form tx.namespaces) form)) (second_holds names (list_all have_lists_in_form tx.namespaces) form)

-- ---- all of it is included

-- it has the value, or the policy, of a key
abbrev pub has_value : StateKey → WrittenKey → Bool
has_value k w = is_same_key k w.key && is_some w.value

abbrev pub has_policy : StateKey → WrittenKey → Bool
has_policy k w = is_same_key k w.key && is_some w.policy

either_left : (a b : Bool) → a ≡ true → (a || b) ≡ true
either_left true b h = refl
either_left false b h = cc

either_right : (a b : Bool) → b ≡ true → (a || b) ≡ true
either_right true b h = refl
either_right false b h = h

on_left : {X : Type 0} (p : X → Bool) (xs ys : List X) → list_any p xs ≡ true → list_any p (xs ++ ys) ≡ true
on_left p xs ys h = list_any-append p xs ys ∙ either_left (list_any p xs) (list_any p ys) h

on_right : {X : Type 0} (p : X → Bool) (xs ys : List X) → list_any p ys ≡ true → list_any p (xs ++ ys) ≡ true
on_right p xs ys h = list_any-append p xs ys ∙ either_right (list_any p xs) (list_any p ys) h

is_same_named : (k : StateKey) (n : NsSet) (key : List ℕ) → bytes_eq k.0 n.name ≡ true → bytes_eq k.1 key ≡ true → (is_same_key k (n.name, key) && true) ≡ true
is_same_named k n key a b = rw (a, b) refl

value_in : (k : StateKey) (n : NsSet) → bytes_eq k.0 n.name ≡ true → (ws : List Write) → is_some (option_map (λ w. w.value) (find (λ w. bytes_eq k.1 w.key) ws)) ≡ true → list_any (has_value k) (map (value_write n) ws) ≡ true
value_in k n named [] h = h
value_in k n named (w ∷ ws) h =
    elim (bytes_eq k.1 w.key) as (λ b. bytes_eq k.1 w.key ≡ b → is_some (option_map (λ x. x.value) (cond b (Some w) (find (λ x. bytes_eq k.1 x.key) ws))) ≡ true → list_any (has_value k) (map (value_write n) (w ∷ ws)) ≡ true) [
      | true ↦ λ e _. either_left (has_value k (value_write n w)) _ (is_same_named k n w.key named e)
      | false ↦ λ _ r. either_right (has_value k (value_write n w)) _ (value_in k n named ws r)
    ] refl h

policy_in : (k : StateKey) (n : NsSet) → bytes_eq k.0 n.name ≡ true → (ws : List PolicyWrite) → is_some (option_map policy_left (find (λ w. bytes_eq k.1 w.key) ws)) ≡ true → list_any (has_policy k) (map (policy_write n) ws) ≡ true
policy_in k n named [] h = h
policy_in k n named (w ∷ ws) h =
    elim (bytes_eq k.1 w.key) as (λ b. bytes_eq k.1 w.key ≡ b → is_some (option_map policy_left (cond b (Some w) (find (λ x. bytes_eq k.1 x.key) ws))) ≡ true → list_any (has_policy k) (map (policy_write n) (w ∷ ws)) ≡ true) [
      | true ↦ λ e _. either_left (has_policy k (policy_write n w)) _ (is_same_named k n w.key named e)
      | false ↦ λ _ r. either_right (has_policy k (policy_write n w)) _ (policy_in k n named ws r)
    ] refl h

values_in : (k : StateKey) (ns : List NsSet) → is_some (option_map (λ w. w.value) (option_and_then (λ n. find (λ w. bytes_eq k.1 w.key) n.writes) (find (λ n. bytes_eq k.0 n.name) ns))) ≡ true → list_any (has_value k) (flat_map writes_in ns) ≡ true
values_in k [] h = h
values_in k (n ∷ ns) h =
    elim (bytes_eq k.0 n.name) as (λ b. bytes_eq k.0 n.name ≡ b → is_some (option_map (λ w. w.value) (option_and_then (λ m. find (λ w. bytes_eq k.1 w.key) m.writes) (cond b (Some n) (find (λ m. bytes_eq k.0 m.name) ns)))) ≡ true → list_any (has_value k) (flat_map writes_in (n ∷ ns)) ≡ true) [
      | true ↦ λ e r. on_left (has_value k) (writes_in n) (flat_map writes_in ns) (on_left (has_value k) (map (value_write n) n.writes) (map (policy_write n) n.policy_writes) (value_in k n e n.writes r))
      | false ↦ λ _ r. on_right (has_value k) (writes_in n) (flat_map writes_in ns) (values_in k ns r)
    ] refl h

policies_in : (k : StateKey) (ns : List NsSet) → is_some (option_map policy_left (option_and_then (λ n. find (λ w. bytes_eq k.1 w.key) n.policy_writes) (find (λ n. bytes_eq k.0 n.name) ns))) ≡ true → list_any (has_policy k) (flat_map writes_in ns) ≡ true
policies_in k [] h = h
policies_in k (n ∷ ns) h =
    elim (bytes_eq k.0 n.name) as (λ b. bytes_eq k.0 n.name ≡ b → is_some (option_map policy_left (option_and_then (λ m. find (λ w. bytes_eq k.1 w.key) m.policy_writes) (cond b (Some n) (find (λ m. bytes_eq k.0 m.name) ns)))) ≡ true → list_any (has_policy k) (flat_map writes_in (n ∷ ns)) ≡ true) [
      | true ↦ λ e r. on_left (has_policy k) (writes_in n) (flat_map writes_in ns) (on_right (has_policy k) (map (value_write n) n.writes) (map (policy_write n) n.policy_writes) (policy_in k n e n.policy_writes r))
      | false ↦ λ _ r. on_right (has_policy k) (writes_in n) (flat_map writes_in ns) (policies_in k ns r)
    ] refl h

pub value_there : (tx : Tx) (k : StateKey) → is_some (value_at tx k) ≡ true → list_any (has_value k) (single_writes tx) ≡ true
value_there tx k h = values_in k tx.namespaces h

pub policy_there : (tx : Tx) (k : StateKey) → is_some (policy_at tx k) ≡ true → list_any (has_policy k) (single_writes tx) ≡ true
policy_there tx k h = policies_in k tx.namespaces h

-- ---- their keys

value_keys : (n : NsSet) (ws : List Write) (rest : List WrittenKey) → map (λ w. w.key) (map (value_write n) ws ++ rest) ≡ map (λ w. (n.name, w.key)) ws ++ map (λ w. w.key) rest
value_keys n [] rest = refl
value_keys n (w ∷ ws) rest = ap (λ l. (n.name, w.key) ∷ l) (value_keys n ws rest)

policy_keys : (n : NsSet) (ws : List PolicyWrite) (rest : List WrittenKey) → map (λ w. w.key) (map (policy_write n) ws ++ rest) ≡ map (λ w. (n.name, w.key)) ws ++ map (λ w. w.key) rest
policy_keys n [] rest = refl
policy_keys n (w ∷ ws) rest = ap (λ l. (n.name, w.key) ∷ l) (policy_keys n ws rest)

keys_in : (ns : List NsSet) → map (λ w. w.key) (flat_map writes_in ns) ≡ flat_map (λ n. value_keys_in n ++ policy_keys_in n) ns
keys_in [] = refl
keys_in (n ∷ ns) =
    ap (map (λ w. w.key)) (append_assoc (map (value_write n) n.writes) (map (policy_write n) n.policy_writes) (flat_map writes_in ns))
    ∙ value_keys n n.writes (map (policy_write n) n.policy_writes ++ flat_map writes_in ns)
    ∙ ap (λ l. value_keys_in n ++ l) (policy_keys n n.policy_writes (flat_map writes_in ns) ∙ ap (λ l. policy_keys_in n ++ l) (keys_in ns))
    ∙ sym (append_assoc (value_keys_in n) (policy_keys_in n) (flat_map (λ m. value_keys_in m ++ policy_keys_in m) ns))

pub single_writes_keys : (tx : Tx) → map (λ w. w.key) (single_writes tx) ≡ written_keys tx
single_writes_keys tx = keys_in tx.namespaces
