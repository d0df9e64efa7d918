-- What the reader of transactions and updates accepts: names, keys and values within their limits, and few writes.
use Rattle.std.proofs.Common.{◌≡◌, ℕ, zero, suc, ◌+◌, ◌*◌, ◌^◌, ◌<◌, ◌≤◌, ◌==◌, nat_le, cond, true, List, [], ◌∷◌, ◌++◌, length, Option, Some, None, ap, subst, ◌∙◌, arith, leb-true, length-append}
use Rattle.std.specs.Prelude.{IfSome, ◌&&◌}
use Rattle.std.specs.List.{AllByRecursion, flat_map, list_all}
use Rattle.std.proofs.lemmas.List.{length-map}
use Rattle.values.specs.Name.{is_name, is_name_byte}
use Rattle.values.specs.Key.{is_key, is_bound}
use Rattle.transaction.specs.declared.block_version.BlockVersion.{BlockVersion}
use Rattle.transaction.specs.declared.block_version.BlockVersion.TheVariants.{V1, V2}
use Rattle.transaction.specs.declared.transaction.Endorsement.{Endorsement}
use Rattle.transaction.specs.declared.transaction.Write.{Write}
use Rattle.transaction.specs.declared.transaction.NsSet.{NsSet}
use Rattle.transaction.specs.declared.transaction.Tx.{Tx}
use Rattle.transaction.specs.declared.update.Update.{Update}
use Rattle.transaction.specs.declared.item.Item.{Item}
use Rattle.transaction.specs.declared.item.Item.TheVariants as item
use Rattle.transaction.specs.Limits.{id_bytes, max_endorsements, max_tx_bytes}
use Rattle.transaction.specs.Combined.{Reader, counted_at, pair_at, byte_at, few_at}
use Rattle.transaction.specs.Reading.{bool_of, role_of, name_at, key_at, bound_at, identity_at, version_at, read_at, result_at, range_at, write_at, policy_write_at, namespace_at, endorsement_at, Body, body_at, tx_from, tx_at, all_at, whole_tx_at}
use Rattle.transaction.specs.Openings.{opening_at, Opening}
use Rattle.transaction.specs.UpdateReading.{mark_of, update_from, update_at, whole_update_at}
use Rattle.transaction.specs.Decoded.{tx_of}
use Rattle.transaction.specs.Items.{tx_item, update_item, item_of}
use Rattle.transaction.proofs.FieldLaws.{bind_some, some_is, if_some}
use Rattle.rules.specs.State.{StateKey}
use Rattle.rules.specs.Effect.{value_keys_in, policy_keys_in, written_keys}
use Rattle.rules.proofs.Booleans.{both_true}
use Rattle.chain_laws.proofs.Lists.{all-append, all-map}
use Rattle.chain_laws.proofs.Taken.{Takes, mapped_some, pair_parts, tested_parts, bytes_takes, number_takes, counted_takes, byte_takes, said_takes, tested_takes, mapped_takes, optional_takes, total, listed_takes, pair_takes}

-- ---- what fits

pub record FitsWrite (w : Write) : Type 0 where
  pub key : length w.key < 2 ^ 16
  pub value : IfSome w.value (λ value. length value < 2 ^ 32)

pub record FitsSet (n : NsSet) : Type 0 where
  pub name : length n.name < 2 ^ 8
  pub writes : AllByRecursion FitsWrite n.writes
  pub policy_writes : AllByRecursion (λ w. length w.key < 2 ^ 16) n.policy_writes

-- each write takes two bytes at least
pub record FitsTx (tx : Tx) : Type 0 where
  pub sets : AllByRecursion FitsSet tx.namespaces
  pub few : 2 * length (written_keys tx) ≤ max_tx_bytes

abbrev pub FitsItem : Item → Type 0
FitsItem (item.Tx tx) = FitsTx tx
FitsItem (item.Update u) = length u.namespace < 2 ^ 8

-- ---- names, keys, bounds

name_short : (n : List ℕ) → is_name n ≡ true → length n < 2 ^ 8
name_short n h =
    let parts = both_true (nat_le 1 (length n) && nat_le (length n) 64) (list_all is_name_byte n) h in
    let most : length n ≤ 64 = leb-true _ _ (both_true (nat_le 1 (length n)) (nat_le (length n) 64) parts.0).1 in
    omega (arith, most)

key_short : (k : List ℕ) → is_key k ≡ true → length k < 2 ^ 16
key_short k h = let most : length k ≤ 1024 = leb-true _ _ (both_true (nat_le 1 (length k)) (nat_le (length k) 1024) h).1 in omega (arith, most)

name_takes : {most : ℕ} → Takes most name_at (λ n. 0) (λ n. length n < 2 ^ 8)
unfolding name_at
name_takes = said_takes (λ n. 0) (λ n. length n < 2 ^ 8) (tested_takes is_name (counted_takes 1)) (λ n. omega arith) (λ n h. name_short n h.1)

key_takes : {most : ℕ} → Takes most key_at (λ k. 2) (λ k. length k < 2 ^ 16)
unfolding key_at
key_takes = said_takes (λ k. 2) (λ k. length k < 2 ^ 16) (tested_takes is_key (counted_takes 2)) (λ k. omega arith) (λ k h. key_short k h.1)

bound_takes : {most : ℕ} → Takes most bound_at (λ b. 0) (λ b. Unit {0})
unfolding bound_at
bound_takes = said_takes (λ b. 0) (λ b. Unit {0}) (tested_takes is_bound (counted_takes 2)) (λ b. omega arith) (λ b h. tt)

-- ---- what precedes the writes

identity_takes : {most : ℕ} → Takes most identity_at (λ i. 0) (λ i. Unit {0})
unfolding identity_at
identity_takes =
    mapped_takes (λ p. record { org = p.0; role = p.1.0; label = p.1.1 }) (λ i. 0) (λ i. Unit {0}) (pair_takes name_takes (pair_takes (byte_takes role_of) (counted_takes 1)))
    (λ p. omega arith) (λ p h. tt)

version_takes : {most : ℕ} → Takes most version_at (λ v. 0) (λ v. Unit {0})
unfolding version_at
version_takes = mapped_takes (λ p. record { block = p.0; tx = p.1 }) (λ v. 0) (λ v. Unit {0}) (pair_takes (number_takes 8) (number_takes 4)) (λ p. omega arith) (λ p h. tt)

read_takes : {most : ℕ} → Takes most read_at (λ r. 0) (λ r. Unit {0})
unfolding read_at
read_takes = mapped_takes (λ p. record { key = p.0; version = p.1 }) (λ r. 0) (λ r. Unit {0}) (pair_takes key_takes (optional_takes version_takes)) (λ p. omega arith) (λ p h. tt)

result_takes : {most : ℕ} → Takes most result_at (λ r. 0) (λ r. Unit {0})
unfolding result_at
result_takes = mapped_takes (λ p. record { key = p.0; version = p.1 }) (λ r. 0) (λ r. Unit {0}) (pair_takes key_takes version_takes) (λ p. omega arith) (λ p h. tt)

range_takes : {most : ℕ} → Takes most range_at (λ r. 0) (λ r. Unit {0})
unfolding range_at
range_takes =
    mapped_takes (λ p. record { start = p.0; end = p.1.0; exhausted = p.1.1.0; results = p.1.1.1 }) (λ r. 0) (λ r. Unit {0})
    (pair_takes bound_takes (pair_takes bound_takes (pair_takes (byte_takes bool_of) (listed_takes 2 result_takes)))) (λ p. omega arith) (λ p h. tt)

-- ---- writes, namespaces, bodies

short_value : (most : ℕ) → most < 2 ^ 32 → (o : Option (List ℕ)) → IfSome o (λ v. length v ≤ most) → IfSome o (λ v. length v < 2 ^ 32)
short_value most small None h = tt
short_value most small (Some v) h = omega (arith, small, h)

write_takes : {most : ℕ} → most < 2 ^ 32 → Takes most write_at (λ w. 2) FitsWrite
unfolding write_at
write_takes {most} small =
    mapped_takes (λ p. record { key = p.0; value = p.1 }) (λ w. 2) FitsWrite (pair_takes key_takes (optional_takes (counted_takes 4)))
    (λ p. omega arith) (λ p h. record { key = h.0; value = short_value most small p.1 h.1 })

policy_write_takes : {most : ℕ} → Takes most policy_write_at (λ w. 2) (λ w. length w.key < 2 ^ 16)
unfolding policy_write_at
policy_write_takes =
    mapped_takes (λ p. record { key = p.0; policy = p.1 }) (λ w. 2) (λ w. length w.key < 2 ^ 16) (pair_takes key_takes (optional_takes (counted_takes 2)))
    (λ p. omega arith) (λ p h. h.0)

abbrev set_size : NsSet → ℕ
set_size n = total (λ w. 2) n.writes + total (λ w. 2) n.policy_writes

namespace_takes : {most : ℕ} → most < 2 ^ 32 → Takes most namespace_at set_size FitsSet
unfolding namespace_at
namespace_takes small =
    mapped_takes (λ p. record { name = p.0; reads = p.1.0; ranges = p.1.1.0; writes = p.1.1.1.0; policy_writes = p.1.1.1.1 }) set_size FitsSet
    (pair_takes name_takes (pair_takes (listed_takes 2 read_takes) (pair_takes (listed_takes 2 range_takes) (pair_takes (listed_takes 2 (write_takes small)) (listed_takes 2 policy_write_takes)))))
    (λ p. omega arith) (λ p h. record { name = h.0; writes = h.1.1.1.0; policy_writes = h.1.1.1.1 })

abbrev sets_in : Body → List NsSet
sets_in b = b.1.1.1.1.1

body_takes : {most : ℕ} → most < 2 ^ 32 → Takes most body_at (λ b. total set_size (sets_in b)) (λ b. AllByRecursion FitsSet (sets_in b))
unfolding body_at
body_takes small =
    said_takes (λ b. total set_size (sets_in b)) (λ b. AllByRecursion FitsSet (sets_in b))
    (pair_takes name_takes (pair_takes (bytes_takes id_bytes) (pair_takes identity_takes (pair_takes (counted_takes 1) (pair_takes name_takes (listed_takes 2 (namespace_takes small)))))))
    (λ b. omega arith) (λ b h. h.1.1.1.1.1)

-- ---- the keys that are written

abbrev keys_in : NsSet → List StateKey
keys_in n = value_keys_in n ++ policy_keys_in n

twos : {A : Type 0} (xs : List A) → total (λ x. 2) xs ≡ 2 * length xs
twos [] = omega arith
twos (x ∷ xs) = omega (arith, twos xs)

keys_taken : (ns : List NsSet) → 2 * length (flat_map keys_in ns) ≡ total set_size ns
keys_taken [] = omega arith
keys_taken (n ∷ ns) =
    let writes : length (value_keys_in n) ≡ length n.writes = length-map n.writes (λ w. (n.name, w.key)) in
    let policies : length (policy_keys_in n) ≡ length n.policy_writes = length-map n.policy_writes (λ w. (n.name, w.key)) in
    let here : 2 * length (keys_in n) ≡ set_size n = omega (arith, writes, policies, twos n.writes, twos n.policy_writes, length-append (value_keys_in n) (policy_keys_in n)) in
    omega (arith, here, keys_taken ns, length-append (keys_in n) (flat_map keys_in ns))

abbrev pub FitsKey : StateKey → Type 0
FitsKey k = (length k.0 < 2 ^ 8) × (length k.1 < 2 ^ 16)

keys_fit_in : (ns : List NsSet) → AllByRecursion FitsSet ns → AllByRecursion FitsKey (flat_map keys_in ns)
keys_fit_in [] h = tt
keys_fit_in (n ∷ ns) h =
    let writes = all-map FitsWrite FitsKey (λ w. (n.name, w.key)) (λ w f. (h.0.name, f.key)) n.writes h.0.writes in
    let policies = all-map (λ w. length w.key < 2 ^ 16) FitsKey (λ w. (n.name, w.key)) (λ w f. (h.0.name, f)) n.policy_writes h.0.policy_writes in
    all-append FitsKey (keys_in n) (flat_map keys_in ns) (all-append FitsKey (value_keys_in n) (policy_keys_in n) writes policies) (keys_fit_in ns h.1)

pub keys_fit : (tx : Tx) → FitsTx tx → AllByRecursion FitsKey (written_keys tx)
keys_fit tx fits = keys_fit_in tx.namespaces fits.sets

-- ---- whole items

abbrev behind_body : Reader (List Endorsement × List ℕ)
behind_body = pair_at (few_at max_endorsements endorsement_at) (counted_at 2)

tx_fits : (bytes : List ℕ) (tx : Tx) → tx_of bytes ≡ Some tx → FitsTx tx
unfolding whole_tx_at tx_at
tx_fits bytes tx e =
    let short = if_some (nat_le (length bytes) max_tx_bytes) (all_at tx_at bytes) tx e in
    let few : length bytes ≤ max_tx_bytes = leb-true _ _ short.0 in
    let read = bind_some (tx_at bytes) (λ x. cond (length x.1 == 0) (Some x.0) None) tx short.1 in
    let all = if_some (length read.0.1 == 0) (Some read.0.0) tx read.2 in
    let fields = mapped_some (λ x. (tx_from x.0, x.1)) (pair_at body_at behind_body bytes) read.0 read.1 in
    let parts = pair_parts body_at behind_body bytes fields.0 fields.1 in
    let body : Takes max_tx_bytes body_at (λ b. total set_size (sets_in b)) (λ b. AllByRecursion FitsSet (sets_in b)) = body_takes (omega arith) in
    let own : (total set_size (sets_in fields.0.0.0) + length parts.0 ≤ length bytes) × AllByRecursion FitsSet (sets_in fields.0.0.0) = body.taken bytes (fields.0.0.0, parts.0) few parts.1 in
    let whole : FitsTx (tx_from fields.0.0) = record { sets = own.1; few = omega (arith, keys_taken (sets_in fields.0.0.0), own.0, few) } in
    let same : tx_from fields.0.0 ≡ tx = ap (λ (x : Tx × List ℕ). x.0) fields.2 ∙ some_is read.0.0 tx all.1 in
    subst FitsTx same whole

abbrev behind_name : Reader (List ℕ × (List Endorsement × List ℕ))
behind_name = pair_at (counted_at 2) (pair_at (few_at max_endorsements endorsement_at) (counted_at 2))

abbrev from_name : Reader (List ℕ × (List ℕ × (List Endorsement × List ℕ)))
from_name = pair_at name_at behind_name

abbrev from_opening : Reader (Opening × (List ℕ × (List ℕ × (List Endorsement × List ℕ))))
from_opening = pair_at opening_at from_name

update_fits : (bytes : List ℕ) (u : Update) → whole_update_at bytes ≡ Some u → length u.namespace < 2 ^ 8
unfolding whole_update_at update_at name_at
update_fits bytes u e =
    let short = if_some (nat_le (length bytes) max_tx_bytes) (all_at update_at bytes) u e in
    let read = bind_some (update_at bytes) (λ x. cond (length x.1 == 0) (Some x.0) None) u short.1 in
    let all = if_some (length read.0.1 == 0) (Some read.0.0) u read.2 in
    let fields = mapped_some (λ x. (update_from x.0, x.1)) (pair_at (byte_at mark_of) from_opening bytes) read.0 read.1 in
    let mark = pair_parts (byte_at mark_of) from_opening bytes fields.0 fields.1 in
    let opening = pair_parts opening_at from_name mark.0 (fields.0.0.1, fields.0.1) mark.2 in
    let name = pair_parts name_at behind_name opening.0 (fields.0.0.1.1, fields.0.1) opening.2 in
    let is = tested_parts is_name (counted_at 1) opening.0 (fields.0.0.1.1.0, name.0) name.1 in
    let same : update_from fields.0.0 ≡ u = ap (λ (x : Update × List ℕ). x.0) fields.2 ∙ some_is read.0.0 u all.1 in
    subst (λ (v : Update). length v.namespace < 2 ^ 8) same (name_short fields.0.0.1.1.0 is.1)

tx_item_fits : (bytes : List ℕ) (i : Item) → tx_item bytes ≡ Some i → FitsItem i
tx_item_fits bytes i e = let a = mapped_some item.Tx (tx_of bytes) i e in subst FitsItem a.2 (tx_fits bytes a.0 a.1)

update_item_fits : (bytes : List ℕ) (i : Item) → update_item bytes ≡ Some i → FitsItem i
update_item_fits bytes i e = let a = mapped_some item.Update (whole_update_at bytes) i e in subst FitsItem a.2 (update_fits bytes a.0 a.1)

pub item_fits : (version : BlockVersion) (bytes : List ℕ) (i : Item) → item_of version bytes ≡ Some i → FitsItem i
item_fits V1 bytes i e = tx_item_fits bytes i e
item_fits V2 [] i e = tx_item_fits [] i e
item_fits V2 (zero ∷ bytes) i e = update_item_fits (zero ∷ bytes) i e
item_fits V2 (suc b ∷ bytes) i e = tx_item_fits (suc b ∷ bytes) i e
