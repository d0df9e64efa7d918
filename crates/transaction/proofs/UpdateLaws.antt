-- What is read of an update, or of an item, is what was spelled, and what was spelled is read again.
use Rattle.std.proofs.Common.{◌≡◌, ℕ, zero, suc, Bool, true, false, cond, eqb, leb, List, [], ◌∷◌, ◌++◌, length, Option, Some, None, refl, sym, ap, ◌∙◌, append_assoc, arith}
use Rattle.std.specs.Prelude.{IsTrue, option_map}
use Rattle.std.proofs.lemmas.Bool.{eqb-true, leb-true, le-leb, le-ltb}
use Rattle.values.specs.Name.{is_name}
use Rattle.values.proofs.Numbers.{IsBytes, wide1, wide2}
use Rattle.transaction.specs.declared.block_version.BlockVersion.{BlockVersion}
use Rattle.transaction.specs.declared.block_version.BlockVersion.TheVariants.{V1, V2}
use Rattle.transaction.specs.declared.transaction.Tx.{Tx}
use Rattle.transaction.specs.declared.update.Update.{Update}
use Rattle.transaction.specs.declared.item.Item.{Item}
use Rattle.transaction.specs.declared.item.Item.TheVariants as item
use Rattle.transaction.specs.Limits.{id_bytes, max_endorsements, max_tx_bytes}
use Rattle.transaction.specs.Grammar.{counted, listed, identity_bytes, namespace_bytes, endorsement_bytes, IsEndorsement, SpellsTx}
use Rattle.transaction.specs.Openings.{opening_bytes, IsOpening, opening_at}
use Rattle.transaction.specs.UpdateGrammar.{update_whole_bytes, IsWholeUpdate, SpellsUpdate}
use Rattle.transaction.specs.Reading.{name_at, all_at, endorsement_at, whole_tx_at}
use Rattle.transaction.specs.UpdateReading.{mark_of, UpdateFields, update_from, update_at, whole_update_at}
use Rattle.transaction.specs.Items.{SpellsItem, tx_item, update_item, item_of}
use Rattle.transaction.proofs.FieldLaws.{IsField, bytes_field, counted_field, few_field, byte_field, respelled_field, if_some, some_is}
use Rattle.transaction.proofs.RecordLaws.{pair_of, mapped_of, said_of, name_field, identity_field, endorsement_field}
use Rattle.transaction.proofs.Answered.{ReadsAs, limited_taken, limited_again, tx_law}

abbrev mark_byte : Unit {0} → ℕ
mark_byte u = 0

mark_back : (b : ℕ) (u : Unit {0}) → mark_of b ≡ Some u → b ≡ mark_byte u
mark_back b u e = by (eqb b 0) refl e
  where
    by : (t : Bool) → eqb b 0 ≡ t → cond t (Some u) None ≡ Some u → b ≡ mark_byte u
    by true t h = eqb-true _ _ t
    by false t h = absurd cc

mark_forth : (u : Unit {0}) → mark_of (mark_byte u) ≡ Some u
mark_forth u = refl

opening_field : IsField opening_at opening_bytes IsOpening
unfolding opening_at
opening_field =
    said_of IsOpening (pair_of name_field (pair_of (bytes_field id_bytes) (pair_of identity_field (counted_field 1 wide1))))
    (λ o h. record { channel = h.0; id = h.1.0; creator = h.1.1.0; nonce = h.1.1.1 }) (λ o h. (h.channel, (h.id, (h.creator, h.nonce))))

abbrev to_fields : Update → UpdateFields
to_fields u = (tt, ((u.channel, (u.id, (u.creator, u.nonce))), (u.namespace, (u.policy, (u.endorsements, u.signature)))))

-- the fields' bytes, as they are read
abbrev joined_bytes : Update → List ℕ
joined_bytes u =
    (0 ∷ []) ++ (opening_bytes (u.channel, (u.id, (u.creator, u.nonce))) ++ (counted 1 u.namespace ++ (counted 2 u.policy ++ (listed 1 endorsement_bytes u.endorsements ++ counted 2 u.signature))))

regrouped : (a b c d e f g h : List ℕ) → 0 ∷ ((a ++ (b ++ (c ++ d))) ++ (e ++ (f ++ (g ++ h)))) ≡ ((0 ∷ (a ++ (b ++ (c ++ (d ++ (e ++ f)))))) ++ g) ++ h
regrouped a b c d e f g h = simp append_assoc

update_field : IsField update_at update_whole_bytes IsWholeUpdate
unfolding update_at
update_field =
    let joined : IsField update_at joined_bytes IsWholeUpdate =
    said_of IsWholeUpdate
    (mapped_of update_from to_fields (λ p. refl) (λ u. refl)
    (pair_of (byte_field mark_of mark_byte mark_back mark_forth) (pair_of opening_field (pair_of name_field (pair_of (counted_field 2 wide2)
    (pair_of (few_field endorsement_at endorsement_bytes IsEndorsement endorsement_field max_endorsements (omega arith)) (counted_field 2 wide2)))))))
    (λ u h. record {
      signed = record {
        body = record { channel = h.1.0.channel; id = h.1.0.id; creator = h.1.0.creator; nonce = h.1.0.nonce; namespace = h.1.1.0; policy = h.1.1.1.0 };
        endorsements = record { count = h.1.1.1.1.0.0; each = h.1.1.1.1.0.1 };
      };
      signature = h.1.1.1.1.1;
    })
    (λ u h. let b = h.signed.body in let es = h.signed.endorsements in
    (tt, (record { channel = b.channel; id = b.id; creator = b.creator; nonce = b.nonce }, (b.namespace, (b.policy, ((es.count, es.each), h.signature)))))) in
    respelled_field update_at joined_bytes update_whole_bytes IsWholeUpdate joined
    (λ u. regrouped (counted 1 u.channel) u.id (identity_bytes u.creator) (counted 1 u.nonce) (counted 1 u.namespace) (counted 2 u.policy) (listed 1 endorsement_bytes u.endorsements) (counted 2 u.signature))

update_taken : (bytes : List ℕ) (u : Update) → IsBytes bytes → whole_update_at bytes ≡ Some u → SpellsUpdate bytes u
unfolding whole_update_at
update_taken bytes u fits e =
    let h = limited_taken update_at update_whole_bytes IsWholeUpdate update_field bytes u fits e in
    record { fits = h.fits; fields = h.fields; short = h.short }

update_again : (bytes : List ℕ) (u : Update) → SpellsUpdate bytes u → whole_update_at bytes ≡ Some u
unfolding whole_update_at
update_again bytes u s = limited_again update_at update_whole_bytes IsWholeUpdate update_field bytes u (record { fits = s.fits; fields = s.fields; short = s.short })

-- ---- items

behind_map : {A B : Type 0} (f : A → B) (o : Option A) (y : B) → option_map f o ≡ Some y → (x : A) × (o ≡ Some x) × (f x ≡ y)
behind_map f None y e = absurd cc
behind_map f (Some x) y e = (x, refl, some_is (f x) y e)

abbrev as_tx : Tx → Item
as_tx tx = item.Tx tx

abbrev as_update : Update → Item
as_update u = item.Update u

tx_item_taken : (version : BlockVersion) (bytes : List ℕ) (i : Item) → IsBytes bytes → tx_item bytes ≡ Some i → SpellsItem version bytes i
tx_item_taken version bytes i fits e = by i (behind_map as_tx (whole_tx_at bytes) i e)
  where
    by : (i : Item) → (tx : Tx) × (whole_tx_at bytes ≡ Some tx) × (as_tx tx ≡ i) → SpellsItem version bytes i
    by (item.Tx tx) found = let same : found.0 ≡ tx = cc in (tx_law bytes fits).taken tx (found.1 ∙ ap (λ (t : Tx). Some t) same)
    by (item.Update u) found = absurd cc

update_item_taken : (bytes : List ℕ) (i : Item) → IsBytes bytes → update_item bytes ≡ Some i → SpellsItem V2 bytes i
update_item_taken bytes i fits e = by i (behind_map as_update (whole_update_at bytes) i e)
  where
    by : (i : Item) → (u : Update) × (whole_update_at bytes ≡ Some u) × (as_update u ≡ i) → SpellsItem V2 bytes i
    by (item.Update u) found = let same : found.0 ≡ u = cc in update_taken bytes u fits (found.1 ∙ ap (λ (t : Update). Some t) same)
    by (item.Tx tx) found = absurd cc

pub item_taken : (version : BlockVersion) (bytes : List ℕ) (i : Item) → IsBytes bytes → item_of version bytes ≡ Some i → SpellsItem version bytes i
item_taken V1 bytes i fits e = tx_item_taken V1 bytes i fits e
item_taken V2 [] i fits e = tx_item_taken V2 [] i fits e
item_taken V2 (zero ∷ rest) i fits e = update_item_taken (zero ∷ rest) i fits e
item_taken V2 (suc b ∷ rest) i fits e = tx_item_taken V2 (suc b ∷ rest) i fits e

tx_item_again : (bytes : List ℕ) (tx : Tx) → IsBytes bytes → SpellsTx bytes tx → tx_item bytes ≡ Some (item.Tx tx)
tx_item_again bytes tx fits s = ap (option_map as_tx) ((tx_law bytes fits).again tx s)

-- no transaction begins with 0
no_name_there : (tail : List ℕ) → name_at (zero ∷ tail) ≡ None
unfolding name_at
no_name_there tail = rw (le-ltb (length (zero ∷ tail)) 1 (omega arith), le-ltb (length tail) 0 (omega arith)) refl

no_empty_name : (n rest tail : List ℕ) → IsTrue (is_name n) → zero ∷ tail ≡ counted 1 n ++ rest → ⊥
no_empty_name n rest tail name e =
    let wrong : ◌≡◌ {A = Option (List ℕ × List ℕ)} None (Some (n, rest)) = sym (no_name_there tail) ∙ ap name_at e ∙ name_field.again n rest name in
    absurd cc

no_marked_tx : (rest : List ℕ) (tx : Tx) → SpellsTx (zero ∷ rest) tx → ⊥
no_marked_tx rest tx s =
    let others : List ℕ = tx.id ++ (identity_bytes tx.creator ++ (counted 1 tx.nonce ++ (counted 1 tx.chaincode ++ listed 2 namespace_bytes tx.namespaces))) in
    no_empty_name tx.channel (others ++ (listed 1 endorsement_bytes tx.endorsements ++ counted 2 tx.signature)) rest s.fits.signed.body.channel
    (s.fields ∙ regroup (counted 1 tx.channel) others (listed 1 endorsement_bytes tx.endorsements) (counted 2 tx.signature))
  where
    regroup : (a b c d : List ℕ) → ((a ++ b) ++ c) ++ d ≡ a ++ (b ++ (c ++ d))
    regroup a b c d = simp append_assoc

pub item_again : (version : BlockVersion) (bytes : List ℕ) (i : Item) → IsBytes bytes → SpellsItem version bytes i → item_of version bytes ≡ Some i
item_again V1 bytes (item.Tx tx) fits s = tx_item_again bytes tx fits s
item_again V1 bytes (item.Update u) fits s = absurd s
item_again V2 [] (item.Tx tx) fits s = tx_item_again [] tx fits s
item_again V2 (zero ∷ rest) (item.Tx tx) fits s = absurd (no_marked_tx rest tx s)
item_again V2 (suc b ∷ rest) (item.Tx tx) fits s = tx_item_again (suc b ∷ rest) tx fits s
item_again V2 [] (item.Update u) fits s = let wrong : [] ≡ update_whole_bytes u = s.fields in absurd cc
item_again V2 (zero ∷ rest) (item.Update u) fits s = ap (option_map as_update) (update_again (zero ∷ rest) u s)
item_again V2 (suc b ∷ rest) (item.Update u) fits s = let wrong : suc b ∷ rest ≡ update_whole_bytes u = s.fields in absurd cc

pub item_law : (version : BlockVersion) (bytes : List ℕ) → IsBytes bytes → ReadsAs (SpellsItem version) bytes (item_of version bytes)
item_law version bytes fits = record { taken = λ i e. item_taken version bytes i fits e; again = λ i s. item_again version bytes i fits s }

-- each item has one spelling
pub one_item_spelling : (version : BlockVersion) (a b : List ℕ) (i : Item) → SpellsItem version a i → SpellsItem version b i → a ≡ b
one_item_spelling version a b (item.Tx tx) s t = s.fields ∙ sym t.fields
one_item_spelling V2 a b (item.Update u) s t = s.fields ∙ sym t.fields
one_item_spelling V1 a b (item.Update u) s t = absurd s

-- what version 1 has, version 2 has too
pub item_of_two : (version : BlockVersion) (bytes : List ℕ) (i : Item) → SpellsItem version bytes i → SpellsItem V2 bytes i
item_of_two version bytes (item.Tx tx) s = s
item_of_two V2 bytes (item.Update u) s = s
item_of_two V1 bytes (item.Update u) s = absurd s
