-- What maps that are built up answer, as in the rows of `rules`, which pass none of this on.
use Rattle.std.proofs.Common.{◌≡◌, ℕ, true, cond, List, [], Some, None, refl, sym, ap, ◌∙◌}
use Rattle.std.specs.Str.{bytes_eq}
use Rattle.std.specs.Cmp.Lexicographic.{nat_list_cmp_total, bytes_decides}
use Rattle.std.specs.FinMap.{from_entries, find, get, insert, remove, empty, entries, put as in_place, get-from_entries, get-empty, get-insert, get-remove, entries-insert, len-entries, len-empty}
use Rattle.std.proofs.lemmas.List.{nil_from_length}
use Rattle.header_hash.specs.Hashes.{tx_id_of}
use Rattle.policy.specs.Tree.{Tree}
use Rattle.values.specs.Order.{bytes_cmp}
use Rattle.rules.specs.declared.row.Row.{Row}
use Rattle.rules.specs.declared.first_use.FirstUse.{FirstUse}
use Rattle.rules.specs.declared.history.HistoryEntry.{HistoryEntry}
use Rattle.rules.specs.FirstUses.{FirstUses}
use Rattle.rules.specs.History.{History}
use Rattle.rules.specs.State.{StateKey, State, key_cmp, is_same_key}
use Rattle.rules.proofs.Keys.{key_cmp_total, bytes_ties, key_ties}
use Rattle.rules.proofs.rows.Shared.{both_peers_read, first_peer_read, broken_read, strange_byte_read}

-- ---- look-ups

pub get-rows : (es : List (StateKey × Row)) (q : StateKey) → get (from_entries {R = key_cmp} es) q ≡ find key_cmp q es
get-rows es q = get-from_entries key_cmp_total es q

pub get-policies : (es : List (List ℕ × Tree)) (q : List ℕ) → get (from_entries {R = bytes_cmp} es) q ≡ find bytes_cmp q es
get-policies es q = get-from_entries nat_list_cmp_total es q

pub get-put : (m : State) (x : StateKey) (v : Row) (q : StateKey) → get (insert m x v) q ≡ cond (is_same_key q x) (Some v) (get m q)
get-put m x v q = get-insert key_cmp_total m x v q ∙ ap (λ b. cond b (Some v) (get m q)) (key_ties q x)

pub get-without : (m : State) (x : StateKey) (q : StateKey) → get (remove m x) q ≡ cond (is_same_key q x) None (get m q)
get-without m x q = get-remove key_cmp_total m x q ∙ ap (λ b. cond b None (get m q)) (key_ties q x)

-- an id is the same as itself, whatever SHA-256 gives
pub same_id : (nonce creator : List ℕ) → bytes_eq (tx_id_of nonce creator) (tx_id_of nonce creator) ≡ true
same_id nonce creator = (bytes_decides (tx_id_of nonce creator) (tx_id_of nonce creator)).1 refl

pub ruleset looks = (get-rows, get-policies, get-put, get-without, same_id, both_peers_read, first_peer_read, broken_read, strange_byte_read)

-- ---- first uses

pub get-use : (m : FirstUses) (x : List ℕ) (v : FirstUse) (q : List ℕ) → get (insert m x v) q ≡ cond (bytes_eq q x) (Some v) (get m q)
get-use m x v q = get-insert nat_list_cmp_total m x v q ∙ ap (λ b. cond b (Some v) (get m q)) (bytes_ties q x)

pub get-no_use : (q : List ℕ) → get (empty {X = FirstUse} {R = bytes_cmp}) q ≡ None
get-no_use q = get-empty bytes_cmp q

pub get-no_row : (q : StateKey) → get (empty {X = Row} {R = key_cmp}) q ≡ None
get-no_row q = get-empty key_cmp q

pub ruleset uses = (looks, get-use, get-no_use, get-no_row)

-- ---- history

pub get-entries_put : (m : History) (x : StateKey) (v : List HistoryEntry) (q : StateKey) → get (insert m x v) q ≡ cond (is_same_key q x) (Some v) (get m q)
get-entries_put m x v q = get-insert key_cmp_total m x v q ∙ ap (λ b. cond b (Some v) (get m q)) (key_ties q x)

pub get-no_entries : (q : StateKey) → get (empty {X = List HistoryEntry} {R = key_cmp}) q ≡ None
get-no_entries q = get-empty key_cmp q

pub ruleset entry_looks = (looks, get-no_row, get-entries_put, get-no_entries)

-- ---- rows in order

pub entries-none : entries {X = Row} {R = key_cmp} empty ≡ []
entries-none = nil_from_length (entries {X = Row} {R = key_cmp} empty) (sym (len-entries empty) ∙ len-empty key_cmp Row)

pub entries-put : (m : State) (x : StateKey) (v : Row) → entries (insert m x v) ≡ in_place key_cmp x v (entries m)
entries-put m x v = entries-insert key_cmp_total m x v

pub ruleset scans = (looks, entries-none, entries-put)
