-- What an answer that reading gives says of the bytes.
use Rattle.std.proofs.Common.{◌≡◌, ℕ, Bool, cond, eqb, leb, List, [], ◌++◌, length, Option, Some, None, Result, Ok, Err, refl, sym, ap, subst, ◌∙◌, inl, inr, ◌≤◌}
use Rattle.std.specs.Prelude.{IfOk}
use Rattle.std.proofs.lemmas.Bool.{eqb-true, leb-true, le-leb}
use Rattle.std.proofs.lemmas.List.{append-nil, nil_from_length}
use Rattle.values.specs.Memory.{GivesUnless}
use Rattle.transaction.specs.Limits.{max_tx_bytes}
use Rattle.transaction.specs.declared.identity.Identity.{Identity}
use Rattle.transaction.specs.declared.transaction.Tx.{Tx}
use Rattle.transaction.specs.declared.fault.TxFault.{TxFault}
use Rattle.transaction.specs.declared.fault.TxFault.TheVariants.{Form, Memory}
use Rattle.transaction.specs.Combined.{Reader, ◌>>=◌}
use Rattle.transaction.specs.Grammar.{identity_bytes, whole_bytes, IsIdentity, IsWhole, SpellsIdentity, SpellsTx}
use Rattle.transaction.specs.Reading.{identity_at, tx_at, all_at, whole_tx_at, Gives}
use Rattle.values.proofs.Numbers.{IsBytes}
use Rattle.transaction.proofs.FieldLaws.{IsField, bind_some, if_some, some_is}
use Rattle.transaction.proofs.RecordLaws.{identity_field, tx_field}

-- reading answers the value that the bytes spell
pub record ReadsAs {A : Type 0} (Spells : List ℕ → A → Type 0) (bytes : List ℕ) (read : Option A) : Type 0 where
  pub taken : (x : A) → read ≡ Some x → Spells bytes x
  pub again : (x : A) → Spells bytes x → read ≡ Some x

module _ {A : Type 0} (Spells : List ℕ → A → Type 0) (bytes : List ℕ) (read : Option A) (law : ReadsAs Spells bytes read) where
  pub is_found : (r : Result A TxFault) → Gives (λ x. x) r read → IfOk r (λ x. Spells bytes x)
  is_found (Ok x) h = law.taken x h
  is_found (Err f) h = tt

  pub is_one : (r : Result A TxFault) → Gives (λ x. x) r read → IfOk r (λ x. (other : A) → Spells bytes other → other ≡ x)
  is_one (Ok x) h = λ other spells. some_is other x (sym (law.again other spells) ∙ h)
  is_one (Err f) h = tt

  pub is_one_spelling : ((a b : List ℕ) (x : A) → Spells a x → Spells b x → a ≡ b) → (r : Result A TxFault) → Gives (λ x. x) r read → IfOk r (λ x. (other : List ℕ) → Spells other x → other ≡ bytes)
  is_one_spelling one (Ok x) h = λ other spells. one other bytes x spells (law.taken x h)
  is_one_spelling one (Err f) h = tt

  given_some : (r : Result A TxFault) (x : A) → Gives (λ x. x) r read → read ≡ Some x → GivesUnless Memory r (Ok x)
  given_some (Ok y) x h e = let same : y ≡ x = some_is y x (sym h ∙ e) in inl (ap (λ (z : A). Ok z) same)
  given_some (Err Form) x h e = let none : None ≡ Some x = sym h ∙ e in absurd cc
  given_some (Err Memory) x h e = inr refl

  pub is_read : (r : Result A TxFault) (x : A) → Gives (λ x. x) r read → Spells bytes x → GivesUnless Memory r (Ok x)
  is_read r x h spells = given_some r x h (law.again x spells)

  pub is_form : (r : Result A TxFault) (x : A) → Gives (λ x. x) r read → r ≡ Err Form → Spells bytes x → ⊥
  is_form (Ok y) x h e spells = absurd cc
  is_form (Err Form) x h e spells = let none : None ≡ Some x = sym h ∙ law.again x spells in absurd cc
  is_form (Err Memory) x h e spells = absurd cc

-- ---- all of the bytes

module _ {A : Type 0} (read : Reader A) (spell : A → List ℕ) (Fits : A → Type 0) (field : IsField read spell Fits) where
  all_taken : (bytes : List ℕ) (x : A) → IsBytes bytes → all_at read bytes ≡ Some x → (bytes ≡ spell x) × Fits x
  all_taken bytes x fits e =
      let a = bind_some (read bytes) (λ y. cond (eqb (length y.1) 0) (Some y.0) None) x e in
      let g = if_some (eqb (length a.0.1) 0) (Some a.0.0) x a.2 in
      let h = field.taken bytes a.0 fits a.1 in
      let nothing : a.0.1 ≡ [] = nil_from_length a.0.1 (eqb-true _ _ g.0) in
      subst (λ (y : A). (bytes ≡ spell y) × Fits y) (some_is a.0.0 x g.1) (h.0 ∙ ap (λ (t : List ℕ). spell a.0.0 ++ t) nothing ∙ append-nil (spell a.0.0), h.1)

  all_again : (bytes : List ℕ) (x : A) → bytes ≡ spell x → Fits x → all_at read bytes ≡ Some x
  all_again bytes x e h =
      ap (all_at read) (e ∙ sym (append-nil (spell x))) ∙ ap (λ (r : Option (A × List ℕ)). r >>= λ y. cond (eqb (length y.1) 0) (Some y.0) None) (field.again x [] h)

  -- no more bytes than a transaction has
  pub record SpellsWithin (bytes : List ℕ) (x : A) : Type 0 where
    pub fits : Fits x
    pub fields : bytes ≡ spell x
    pub short : length bytes ≤ max_tx_bytes

  pub limited_taken : (bytes : List ℕ) (x : A) → IsBytes bytes → cond (leb (length bytes) max_tx_bytes) (all_at read bytes) None ≡ Some x → SpellsWithin bytes x
  limited_taken bytes x fits e =
      let g = if_some (leb (length bytes) max_tx_bytes) (all_at read bytes) x e in
      let h = all_taken bytes x fits g.1 in
      record { fits = h.1; fields = h.0; short = leb-true _ _ g.0 }

  pub limited_again : (bytes : List ℕ) (x : A) → SpellsWithin bytes x → cond (leb (length bytes) max_tx_bytes) (all_at read bytes) None ≡ Some x
  limited_again bytes x s = ap (λ (b : Bool). cond b (all_at read bytes) None) (le-leb _ _ s.short) ∙ all_again bytes x s.fields s.fits

pub identity_law : (bytes : List ℕ) → IsBytes bytes → ReadsAs SpellsIdentity bytes (all_at identity_at bytes)
identity_law bytes fits = record {
  taken = λ i e. let h = all_taken identity_at identity_bytes IsIdentity identity_field bytes i fits e in record { fits = h.1; fields = h.0 };
  again = λ i s. all_again identity_at identity_bytes IsIdentity identity_field bytes i s.fields s.fits;
}

tx_taken : (bytes : List ℕ) (tx : Tx) → IsBytes bytes → whole_tx_at bytes ≡ Some tx → SpellsTx bytes tx
unfolding whole_tx_at
tx_taken bytes tx fits e = let h = limited_taken tx_at whole_bytes IsWhole tx_field bytes tx fits e in record { fits = h.fits; fields = h.fields; short = h.short }

tx_again : (bytes : List ℕ) (tx : Tx) → SpellsTx bytes tx → whole_tx_at bytes ≡ Some tx
unfolding whole_tx_at
tx_again bytes tx s = limited_again tx_at whole_bytes IsWhole tx_field bytes tx (record { fits = s.fits; fields = s.fields; short = s.short })

pub tx_law : (bytes : List ℕ) → IsBytes bytes → ReadsAs SpellsTx bytes (whole_tx_at bytes)
tx_law bytes fits = record { taken = λ tx e. tx_taken bytes tx fits e; again = λ tx s. tx_again bytes tx s }

pub one_identity_spelling : (a b : List ℕ) (i : Identity) → SpellsIdentity a i → SpellsIdentity b i → a ≡ b
one_identity_spelling a b i s t = s.fields ∙ sym t.fields

pub one_tx_spelling : (a b : List ℕ) (tx : Tx) → SpellsTx a tx → SpellsTx b tx → a ≡ b
one_tx_spelling a b tx s t = s.fields ∙ sym t.fields
