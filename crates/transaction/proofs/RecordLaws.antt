-- What is read of an identity or a transaction is what was spelled, and what was spelled is read again.
use Rattle.std.proofs.Common.{◌≡◌, ℕ, ◌^◌, ◌<◌, ◌≤◌, Bool, true, false, cond, eqb, List, [], ◌++◌, length, Option, Some, None, refl, sym, subst, append_assoc, arith}
use Rattle.std.specs.Prelude.{IfSome, IsTrue, nat_le, ◌&&◌}
use Rattle.std.specs.List.{AllByRecursion, list_all}
use Rattle.std.proofs.lemmas.Bool.{leb-true, eqb-true, and_parts}
use Rattle.values.specs.Name.{is_name, is_name_byte}
use Rattle.values.specs.Key.{is_key, is_bound}
use Rattle.transaction.specs.declared.identity.Role.{Role}
use Rattle.transaction.specs.declared.identity.Role.TheVariants.{Admin, Client, Peer, Orderer}
use Rattle.transaction.specs.declared.transaction.Endorsement.{Endorsement}
use Rattle.transaction.specs.declared.transaction.Tx.{Tx}
use Rattle.transaction.specs.Limits.{id_bytes, max_endorsements}
use Rattle.transaction.specs.Combined.{Reader, counted_at, tested_at, pair_at, mapped_at, optional_at, listed_at, few_at}
use Rattle.transaction.specs.Grammar.{counted, listed, optional, bool_byte, role_byte, identity_bytes, version_bytes, read_bytes, result_bytes, range_bytes, write_bytes, policy_write_bytes, namespace_bytes, endorsement_bytes, body_bytes, whole_bytes, IsIdentity, IsVersion, IsRead, IsResult, AreItems, IsRange, IsWrite, IsPolicyWrite, IsNsSet, IsEndorsement, IsBody, IsWhole}
use Rattle.transaction.specs.Reading.{bool_of, role_of, name_at, key_at, bound_at, identity_at, version_at, read_at, result_at, range_at, write_at, policy_write_at, namespace_at, endorsement_at, Body, body_at, tx_from, tx_at}
use Rattle.values.proofs.Numbers.{wide1, wide2, wide4, wide8}
use Rattle.transaction.proofs.FieldLaws.{IsField, bytes_field, number_field, counted_field, tested_field, mapped_field, optional_field, listed_field, few_field, pair_field, byte_field, said_field, respelled_field}

-- the combinations, with what the types show left out
pub pair_of : {A B : Type 0} {ra : Reader A} {rb : Reader B} {sa : A → List ℕ} {sb : B → List ℕ} {Fa : A → Type 0} {Fb : B → Type 0} → IsField ra sa Fa → IsField rb sb Fb
    → IsField (pair_at ra rb) (λ p. sa p.0 ++ sb p.1) (λ p. Fa p.0 × Fb p.1)
pair_of {ra = ra} {rb = rb} {sa = sa} {sb = sb} {Fa = Fa} {Fb = Fb} a b = pair_field ra rb sa sb Fa Fb a b

pub mapped_of : {A B : Type 0} {r : Reader A} {s : A → List ℕ} {F : A → Type 0} (f : A → B) (g : B → A) → ((x : A) → g (f x) ≡ x) → ((y : B) → f (g y) ≡ y) → IsField r s F → IsField (mapped_at f r) (λ y. s (g y)) (λ y. F (g y))
mapped_of {r = r} {s = s} {F = F} f g back forth a = mapped_field r s F a f g back forth

optional_of : {A : Type 0} {r : Reader A} {s : A → List ℕ} {F : A → Type 0} → IsField r s F → IsField (optional_at r) (optional s) (λ o. IfSome o F)
optional_of {r = r} {s = s} {F = F} a = optional_field r s F a

listed_of : {A : Type 0} {r : Reader A} {s : A → List ℕ} {F : A → Type 0} → IsField r s F → IsField (listed_at 2 r) (listed 2 s) (AreItems F)
listed_of {r = r} {s = s} {F = F} a = listed_field r s F a 2 wide2

tested_of : {A : Type 0} {r : Reader A} {s : A → List ℕ} {F : A → Type 0} (test : A → Bool) → IsField r s F → IsField (tested_at test r) s (λ x. F x × (test x ≡ true))
tested_of {r = r} {s = s} {F = F} test a = tested_field r s F a test

pub said_of : {A : Type 0} {r : Reader A} {s : A → List ℕ} {F : A → Type 0} (G : A → Type 0) → IsField r s F → ((x : A) → F x → G x) → ((x : A) → G x → F x) → IsField r s G
said_of {r = r} {s = s} {F = F} G a to from = said_field r s F G a to from

-- ---- names, keys, bounds, bytes of a byte

name_short : (n : List ℕ) → is_name n ≡ true → length n < 256
name_short n h = let most : length n ≤ 64 = leb-true _ _ (and_parts _ _ (and_parts (nat_le 1 (length n) && nat_le (length n) 64) (list_all is_name_byte n) h).0).1 in omega arith

key_short : (k : List ℕ) → is_key k ≡ true → length k < 65536
key_short k h = let most : length k ≤ 1024 = leb-true _ _ (and_parts (nat_le 1 (length k)) (nat_le (length k) 1024) h).1 in omega arith

bound_short : (b : List ℕ) → is_bound b ≡ true → length b < 65536
bound_short b h = let most : length b ≤ 1024 = leb-true _ _ h in omega arith

pub name_field : IsField name_at (counted 1) (λ n. IsTrue (is_name n))
unfolding name_at
name_field = said_of (λ n. IsTrue (is_name n)) (tested_of is_name (counted_field 1 wide1)) (λ n h. h.1) (λ n h. (name_short n h, h))

pub key_field : IsField key_at (counted 2) (λ k. IsTrue (is_key k))
unfolding key_at
key_field = said_of (λ k. IsTrue (is_key k)) (tested_of is_key (counted_field 2 wide2)) (λ k h. h.1) (λ k h. (key_short k h, h))

pub bound_field : IsField bound_at (counted 2) (λ b. IsTrue (is_bound b))
unfolding bound_at
bound_field = said_of (λ b. IsTrue (is_bound b)) (tested_of is_bound (counted_field 2 wide2)) (λ b h. h.1) (λ b h. (bound_short b h, h))

abbrev some : {A : Type 0} → A → Option A
some x = Some x

role_back : (b : ℕ) (r : Role) → role_of b ≡ Some r → b ≡ role_byte r
role_back b r e = by_0 (eqb b 0) refl e
  where
    by_3 : (t : Bool) → eqb b 3 ≡ t → cond t (Some Orderer) None ≡ Some r → b ≡ role_byte r
    by_3 true t h = let same : Orderer ≡ r = cc in subst (λ (x : Role). b ≡ role_byte x) same (eqb-true _ _ t)
    by_3 false t h = absurd cc

    by_2 : (t : Bool) → eqb b 2 ≡ t → cond t (Some Peer) (cond (eqb b 3) (Some Orderer) None) ≡ Some r → b ≡ role_byte r
    by_2 true t h = let same : Peer ≡ r = cc in subst (λ (x : Role). b ≡ role_byte x) same (eqb-true _ _ t)
    by_2 false t h = by_3 (eqb b 3) refl h

    by_1 : (t : Bool) → eqb b 1 ≡ t → cond t (Some Client) (cond (eqb b 2) (Some Peer) (cond (eqb b 3) (Some Orderer) None)) ≡ Some r → b ≡ role_byte r
    by_1 true t h = let same : Client ≡ r = cc in subst (λ (x : Role). b ≡ role_byte x) same (eqb-true _ _ t)
    by_1 false t h = by_2 (eqb b 2) refl h

    by_0 : (t : Bool) → eqb b 0 ≡ t → cond t (Some Admin) (cond (eqb b 1) (Some Client) (cond (eqb b 2) (Some Peer) (cond (eqb b 3) (Some Orderer) None))) ≡ Some r → b ≡ role_byte r
    by_0 true t h = let same : Admin ≡ r = cc in subst (λ (x : Role). b ≡ role_byte x) same (eqb-true _ _ t)
    by_0 false t h = by_1 (eqb b 1) refl h

role_forth : (r : Role) → role_of (role_byte r) ≡ Some r
role_forth Admin = refl
role_forth Client = refl
role_forth Peer = refl
role_forth Orderer = refl

flag_back : (b : ℕ) (f : Bool) → bool_of b ≡ Some f → b ≡ bool_byte f
flag_back b f e = by_0 (eqb b 0) refl e
  where
    by_1 : (t : Bool) → eqb b 1 ≡ t → cond t (Some true) None ≡ Some f → b ≡ bool_byte f
    by_1 true t h = let same : true ≡ f = cc in subst (λ (x : Bool). b ≡ bool_byte x) same (eqb-true _ _ t)
    by_1 false t h = absurd cc

    by_0 : (t : Bool) → eqb b 0 ≡ t → cond t (Some false) (cond (eqb b 1) (Some true) None) ≡ Some f → b ≡ bool_byte f
    by_0 true t h = let same : false ≡ f = cc in subst (λ (x : Bool). b ≡ bool_byte x) same (eqb-true _ _ t)
    by_0 false t h = by_1 (eqb b 1) refl h

flag_forth : (f : Bool) → bool_of (bool_byte f) ≡ Some f
flag_forth false = refl
flag_forth true = refl

-- ---- identities and what transactions are made of

pub identity_field : IsField identity_at identity_bytes IsIdentity
unfolding identity_at
identity_field =
    said_of IsIdentity
    (mapped_of (λ p. record { org = p.0; role = p.1.0; label = p.1.1 }) (λ i. (i.org, (i.role, i.label))) (λ p. refl) (λ i. refl)
    (pair_of name_field (pair_of (byte_field role_of role_byte role_back role_forth) (counted_field 1 wide1))))
    (λ i h. record { org = h.0; label = h.1.1 }) (λ i h. (h.org, (tt, h.label)))

pub version_field : IsField version_at version_bytes IsVersion
unfolding version_at
version_field =
    said_of IsVersion (mapped_of (λ p. record { block = p.0; tx = p.1 }) (λ v. (v.block, v.tx)) (λ p. refl) (λ v. refl) (pair_of (number_field 8 wide8) (number_field 4 wide4)))
    (λ v h. record { block = h.0; tx = h.1 }) (λ v h. (h.block, h.tx))

pub read_field : IsField read_at read_bytes IsRead
unfolding read_at
read_field =
    said_of IsRead (mapped_of (λ p. record { key = p.0; version = p.1 }) (λ r. (r.key, r.version)) (λ p. refl) (λ r. refl) (pair_of key_field (optional_of version_field)))
    (λ r h. record { key = h.0; version = h.1 }) (λ r h. (h.key, h.version))

pub result_field : IsField result_at result_bytes IsResult
unfolding result_at
result_field =
    said_of IsResult (mapped_of (λ p. record { key = p.0; version = p.1 }) (λ r. (r.key, r.version)) (λ p. refl) (λ r. refl) (pair_of key_field version_field))
    (λ r h. record { key = h.0; version = h.1 }) (λ r h. (h.key, h.version))

pub range_field : IsField range_at range_bytes IsRange
unfolding range_at
range_field =
    said_of IsRange
    (mapped_of (λ p. record { start = p.0; end = p.1.0; exhausted = p.1.1.0; results = p.1.1.1 }) (λ r. (r.start, (r.end, (r.exhausted, r.results)))) (λ p. refl) (λ r. refl)
    (pair_of bound_field (pair_of bound_field (pair_of (byte_field bool_of bool_byte flag_back flag_forth) (listed_of result_field)))))
    (λ r h. record { start = h.0; end = h.1.0; results = h.1.1.1 }) (λ r h. (h.start, (h.end, (tt, h.results))))

pub write_field : IsField write_at write_bytes IsWrite
unfolding write_at
write_field =
    said_of IsWrite (mapped_of (λ p. record { key = p.0; value = p.1 }) (λ w. (w.key, w.value)) (λ p. refl) (λ w. refl) (pair_of key_field (optional_of (counted_field 4 wide4))))
    (λ w h. record { key = h.0; value = h.1 }) (λ w h. (h.key, h.value))

pub policy_write_field : IsField policy_write_at policy_write_bytes IsPolicyWrite
unfolding policy_write_at
policy_write_field =
    said_of IsPolicyWrite (mapped_of (λ p. record { key = p.0; policy = p.1 }) (λ w. (w.key, w.policy)) (λ p. refl) (λ w. refl) (pair_of key_field (optional_of (counted_field 2 wide2))))
    (λ w h. record { key = h.0; policy = h.1 }) (λ w h. (h.key, h.policy))

pub namespace_field : IsField namespace_at namespace_bytes IsNsSet
unfolding namespace_at
namespace_field =
    said_of IsNsSet
    (mapped_of (λ p. record { name = p.0; reads = p.1.0; ranges = p.1.1.0; writes = p.1.1.1.0; policy_writes = p.1.1.1.1 }) (λ n. (n.name, (n.reads, (n.ranges, (n.writes, n.policy_writes))))) (λ p. refl) (λ n. refl)
    (pair_of name_field (pair_of (listed_of read_field) (pair_of (listed_of range_field) (pair_of (listed_of write_field) (listed_of policy_write_field))))))
    (λ n h. record { name = h.0; reads = h.1.0; ranges = h.1.1.0; writes = h.1.1.1.0; policy_writes = h.1.1.1.1 }) (λ n h. (h.name, (h.reads, (h.ranges, (h.writes, h.policy_writes)))))

pub endorsement_field : IsField endorsement_at endorsement_bytes IsEndorsement
unfolding endorsement_at
endorsement_field =
    said_of IsEndorsement (mapped_of (λ p. record { endorser = p.0; signature = p.1 }) (λ e. (e.endorser, e.signature)) (λ p. refl) (λ e. refl) (pair_of identity_field (counted_field 2 wide2)))
    (λ e h. record { endorser = h.0; signature = h.1 }) (λ e h. (h.endorser, h.signature))

-- ---- transactions

abbrev body_spelling : Body → List ℕ
body_spelling b = body_bytes (tx_from (b, ([], [])))

abbrev IsBodyFields : Body → Type 0
IsBodyFields b = IsBody (tx_from (b, ([], [])))

body_field : IsField body_at body_spelling IsBodyFields
unfolding body_at
body_field =
    said_of IsBodyFields (pair_of name_field (pair_of (bytes_field id_bytes) (pair_of identity_field (pair_of (counted_field 1 wide1) (pair_of name_field (listed_of namespace_field))))))
    (λ b h. record { channel = h.0; id = h.1.0; creator = h.1.1.0; nonce = h.1.1.1.0; chaincode = h.1.1.1.1.0; namespaces = h.1.1.1.1.1 })
    (λ b h. (h.channel, (h.id, (h.creator, (h.nonce, (h.chaincode, h.namespaces))))))

abbrev to_fields : Tx → Body × (List Endorsement × List ℕ)
to_fields tx = ((tx.channel, (tx.id, (tx.creator, (tx.nonce, (tx.chaincode, tx.namespaces))))), (tx.endorsements, tx.signature))

abbrev joined_bytes : Tx → List ℕ
joined_bytes tx = body_bytes tx ++ (listed 1 endorsement_bytes tx.endorsements ++ counted 2 tx.signature)

regrouped : (a b c : List ℕ) → a ++ (b ++ c) ≡ (a ++ b) ++ c
regrouped a b c = sym (append_assoc a b c)

pub tx_field : IsField tx_at whole_bytes IsWhole
unfolding tx_at
tx_field =
    let fields : IsField (pair_at body_at (pair_at (few_at max_endorsements endorsement_at) (counted_at 2))) (λ p. body_spelling p.0 ++ (listed 1 endorsement_bytes p.1.0 ++ counted 2 p.1.1)) (λ p. IsBodyFields p.0 × (((length p.1.0 ≤ max_endorsements) × AllByRecursion IsEndorsement p.1.0) × (length p.1.1 < 256 ^ 2))) =
    pair_of body_field (pair_of (few_field endorsement_at endorsement_bytes IsEndorsement endorsement_field max_endorsements (omega arith)) (counted_field 2 wide2)) in
    let joined : IsField (mapped_at tx_from (pair_at body_at (pair_at (few_at max_endorsements endorsement_at) (counted_at 2)))) joined_bytes IsWhole =
    said_of IsWhole (mapped_of tx_from to_fields (λ p. refl) (λ tx. refl) fields)
    (λ tx h. record { signed = record { body = record { channel = h.0.channel; id = h.0.id; creator = h.0.creator; nonce = h.0.nonce; chaincode = h.0.chaincode; namespaces = h.0.namespaces }; endorsements = record { count = h.1.0.0; each = h.1.0.1 } }; signature = h.1.1 })
    (λ tx h. (record { channel = h.signed.body.channel; id = h.signed.body.id; creator = h.signed.body.creator; nonce = h.signed.body.nonce; chaincode = h.signed.body.chaincode; namespaces = h.signed.body.namespaces }, ((h.signed.endorsements.count, h.signed.endorsements.each), h.signature))) in
    respelled_field (mapped_at tx_from (pair_at body_at (pair_at (few_at max_endorsements endorsement_at) (counted_at 2)))) joined_bytes whole_bytes IsWhole joined
    (λ tx. regrouped (body_bytes tx) (listed 1 endorsement_bytes tx.endorsements) (counted 2 tx.signature))
