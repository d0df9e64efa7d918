-- What maps that are built up answer, and what else the worked rows are computed by.
use Rattle.std.proofs.Common.{◌≡◌, ℕ, true, cond, List, [], Some, None, refl, sym, ap, ◌∙◌}
use Rattle.std.specs.Str.{bytes_eq}
use Rattle.std.specs.Cmp.Lexicographic.{nat_list_cmp_total, bytes_decides}
use Rattle.std.specs.FinMap.{from_entries, find, get, insert, remove, empty, entries, put as in_place, get-from_entries, get-empty, get-insert, get-remove, entries-insert, len-entries, len-empty}
use Rattle.std.proofs.lemmas.List.{nil_from_length}
use Rattle.header_hash.specs.Hashes.{tx_id_of}
use Rattle.policy.specs.Tree.{Tree}
use Rattle.values.specs.Order.{bytes_cmp}
use Rattle.rules.specs.declared.row.Row.{Row}
use Rattle.rules.specs.declared.first_use.FirstUse.{FirstUse}
use Rattle.rules.specs.FirstUses.{FirstUses}
use Rattle.rules.specs.State.{StateKey, State, key_cmp, is_same_key}
use Rattle.rules.proofs.Keys.{key_cmp_total, bytes_ties, key_ties}
use Rattle.rules.proofs.rows.Shared.{both_peers_read, broken_read}

-- ---- look-ups

pub row_of : (es : List (StateKey × Row)) (q : StateKey) → get (from_entries {R = key_cmp} es) q ≡ find key_cmp q es
row_of es q = get-from_entries key_cmp_total es q

pub policy_of_name : (es : List (List ℕ × Tree)) (q : List ℕ) → get (from_entries {R = bytes_cmp} es) q ≡ find bytes_cmp q es
policy_of_name es q = get-from_entries nat_list_cmp_total es q

pub row_put : (m : State) (x : StateKey) (v : Row) (q : StateKey) → get (insert m x v) q ≡ cond (is_same_key q x) (Some v) (get m q)
row_put m x v q = get-insert key_cmp_total m x v q ∙ ap (λ b. cond b (Some v) (get m q)) (key_ties q x)

pub row_removed : (m : State) (x : StateKey) (q : StateKey) → get (remove m x) q ≡ cond (is_same_key q x) None (get m q)
row_removed m x q = get-remove key_cmp_total m x q ∙ ap (λ b. cond b None (get m q)) (key_ties q x)

-- an id is the same as itself, whatever SHA-256 gives
pub same_id : (nonce creator : List ℕ) → bytes_eq (tx_id_of nonce creator) (tx_id_of nonce creator) ≡ true
same_id nonce creator = (bytes_decides (tx_id_of nonce creator) (tx_id_of nonce creator)).1 refl

pub ruleset looks = (row_of, policy_of_name, row_put, row_removed, same_id, both_peers_read, broken_read)

-- ---- first uses

pub use_put : (m : FirstUses) (x : List ℕ) (v : FirstUse) (q : List ℕ) → get (insert m x v) q ≡ cond (bytes_eq q x) (Some v) (get m q)
use_put m x v q = get-insert nat_list_cmp_total m x v q ∙ ap (λ b. cond b (Some v) (get m q)) (bytes_ties q x)

pub no_use : (q : List ℕ) → get (empty {X = FirstUse} {R = bytes_cmp}) q ≡ None
no_use q = get-empty bytes_cmp q

pub no_row : (q : StateKey) → get (empty {X = Row} {R = key_cmp}) q ≡ None
no_row q = get-empty key_cmp q

pub ruleset uses = (looks, use_put, no_use, no_row)

-- ---- entries in order

pub no_entries : entries {X = Row} {R = key_cmp} empty ≡ []
no_entries = nil_from_length (entries {X = Row} {R = key_cmp} empty) (sym (len-entries empty) ∙ len-empty key_cmp Row)

pub entries_put : (m : State) (x : StateKey) (v : Row) → entries (insert m x v) ≡ in_place key_cmp x v (entries m)
entries_put m x v = entries-insert key_cmp_total m x v

pub ruleset scans = (looks, no_entries, entries_put)
