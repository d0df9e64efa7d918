-- What maps that are built up answer, and what else the worked rows are computed by.
use Rattle.std.proofs.Common.{◌≡◌, ℕ, Bool, true, false, cond, List, [], Option, Some, None, refl, sym, ap, ◌∙◌}
use Rattle.std.specs.Str.{bytes_eq}
use Rattle.std.specs.Cmp.Lexicographic.{nat_list_cmp_total, bytes_decides}
use Rattle.std.specs.FinMap.{from_entries, find, get, insert, remove, empty, entries, put as in_place, same_map, get-from_entries, get-empty, get-insert, get-remove, entries-insert, len-entries, len-empty}
use Rattle.std.proofs.lemmas.List.{nil_from_length}
use Rattle.header_hash.specs.Hashes.{tx_id_of}
use Rattle.policy.specs.Tree.{Tree}
use Rattle.values.specs.Order.{bytes_cmp}
use Rattle.rules.specs.declared.row.Row.{Row}
use Rattle.rules.specs.declared.first_use.FirstUse.{FirstUse}
use Rattle.rules.specs.declared.history.HistoryEntry.{HistoryEntry}
use Rattle.rules.specs.FirstUses.{FirstUses}
use Rattle.rules.specs.History.{History}
use Rattle.rules.specs.State.{StateKey, State, key_cmp, is_same_key}
use Rattle.rules.proofs.Keys.{key_cmp_total, key_cmp-IsAntisymmetric, bytes_ties, key_ties, same_key_is}
use Rattle.rules.proofs.rows.Shared.{both_peers_read, first_peer_read, broken_read, strange_byte_read}

-- ---- look-ups

pub get-rows : (es : List (StateKey × Row)) (q : StateKey) → get (from_entries {R = key_cmp} es) q ≡ find key_cmp q es
get-rows es q = get-from_entries key_cmp_total es q

pub get-policies : (es : List (List ℕ × Tree)) (q : List ℕ) → get (from_entries {R = bytes_cmp} es) q ≡ find bytes_cmp q es
get-policies es q = get-from_entries nat_list_cmp_total es q

pub get-put : (m : State) (x : StateKey) (v : Row) (q : StateKey) → get (insert m x v) q ≡ cond (is_same_key q x) (Some v) (get m q)
get-put m x v q = get-insert key_cmp_total m x v q ∙ ap (λ b. cond b (Some v) (get m q)) (key_ties q x)

pub get-without : (m : State) (x : StateKey) (q : StateKey) → get (remove m x) q ≡ cond (is_same_key q x) None (get m q)
get-without m x q = get-remove key_cmp_total m x q ∙ ap (λ b. cond b None (get m q)) (key_ties q x)

-- an id is the same as itself, whatever SHA-256 gives
pub same_id : (nonce creator : List ℕ) → bytes_eq (tx_id_of nonce creator) (tx_id_of nonce creator) ≡ true
same_id nonce creator = (bytes_decides (tx_id_of nonce creator) (tx_id_of nonce creator)).1 refl

pub ruleset looks = (get-rows, get-policies, get-put, get-without, same_id, both_peers_read, first_peer_read, broken_read, strange_byte_read)

-- ---- first uses

pub get-use : (m : FirstUses) (x : List ℕ) (v : FirstUse) (q : List ℕ) → get (insert m x v) q ≡ cond (bytes_eq q x) (Some v) (get m q)
get-use m x v q = get-insert nat_list_cmp_total m x v q ∙ ap (λ b. cond b (Some v) (get m q)) (bytes_ties q x)

pub get-no_use : (q : List ℕ) → get (empty {X = FirstUse} {R = bytes_cmp}) q ≡ None
get-no_use q = get-empty bytes_cmp q

pub get-no_row : (q : StateKey) → get (empty {X = Row} {R = key_cmp}) q ≡ None
get-no_row q = get-empty key_cmp q

pub ruleset uses = (looks, get-use, get-no_use, get-no_row)

-- ---- history

pub get-entries_put : (m : History) (x : StateKey) (v : List HistoryEntry) (q : StateKey) → get (insert m x v) q ≡ cond (is_same_key q x) (Some v) (get m q)
get-entries_put m x v q = get-insert key_cmp_total m x v q ∙ ap (λ b. cond b (Some v) (get m q)) (key_ties q x)

pub get-no_entries : (q : StateKey) → get (empty {X = List HistoryEntry} {R = key_cmp}) q ≡ None
get-no_entries q = get-empty key_cmp q

pub ruleset entry_looks = (looks, get-no_row, get-entries_put, get-no_entries)

-- ---- entries in order

pub entries-none : entries {X = Row} {R = key_cmp} empty ≡ []
entries-none = nil_from_length (entries {X = Row} {R = key_cmp} empty) (sym (len-entries empty) ∙ len-empty key_cmp Row)

pub entries-put : (m : State) (x : StateKey) (v : Row) → entries (insert m x v) ≡ in_place key_cmp x v (entries m)
entries-put m x v = entries-insert key_cmp_total m x v

pub without-none : (x : StateKey) → remove {X = Row} {R = key_cmp} empty x ≡ empty
without-none x = same_map key_cmp_total key_cmp-IsAntisymmetric (remove empty x) empty (λ q. get-without empty x q ∙ by (is_same_key q x) ((get empty q)) (get-empty key_cmp q))
  where
    by : (b : Bool) (o : Option Row) → o ≡ None → cond b None o ≡ o
    by true o none = sym none
    by false o none = refl

-- a removal goes past the entries of other keys
pub without-put : (m : State) (y : StateKey) (v : Row) (x : StateKey) → remove (insert m y v) x ≡ cond (is_same_key x y) (remove m x) (insert (remove m x) y v)
without-put m y v x = by (is_same_key x y) refl
  where
    look : (q : StateKey) → get (remove (insert m y v) x) q ≡ cond (is_same_key q x) None (cond (is_same_key q y) (Some v) (get m q))
    look q = get-without (insert m y v) x q ∙ ap (λ (o : Option Row). cond (is_same_key q x) None o) (get-put m y v q)

    gone : (q : StateKey) → x ≡ y → (b : Bool) → is_same_key q x ≡ b → cond b None (cond (is_same_key q y) (Some v) (get m q)) ≡ cond b None (get m q)
    gone q same true e = refl
    gone q same false e = ap (λ (b : Bool). cond b (Some v) (get m q)) (ap (is_same_key q) (sym same) ∙ e)

    apart : (q : StateKey) → is_same_key x y ≡ false → (b c : Bool) → is_same_key q x ≡ b → is_same_key q y ≡ c → cond b None (cond c (Some v) (get m q)) ≡ cond c (Some v) (cond b None (get m q))
    apart q other true true e f =
        let one : is_same_key x y ≡ true = ap (λ (z : StateKey). is_same_key z y) (sym (same_key_is q x e)) ∙ f in
        absurd cc
    apart q other true false e f = refl
    apart q other false c e f = refl

    by : (b : Bool) → is_same_key x y ≡ b → remove (insert m y v) x ≡ cond b (remove m x) (insert (remove m x) y v)
    by true e = same_map key_cmp_total key_cmp-IsAntisymmetric (remove (insert m y v) x) (remove m x) (λ q. look q ∙ gone q (same_key_is x y e) (is_same_key q x) refl ∙ sym (get-without m x q))
    by false e = same_map key_cmp_total key_cmp-IsAntisymmetric (remove (insert m y v) x) (insert (remove m x) y v) (λ q. look q ∙ apart q e (is_same_key q x) (is_same_key q y) refl refl ∙ sym (get-put (remove m x) y v q ∙ ap (λ (o : Option Row). cond (is_same_key q y) (Some v) o) (get-without m x q)))

pub ruleset scans = (looks, entries-none, entries-put, without-none, without-put)

-- ---- rows that differ

pub ruleset compared = (scans, get-no_row)
