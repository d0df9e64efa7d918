-- A world and a string of bytes have one answer, want of memory aside.
use Rattle.std.proofs.Common.{◌≡◌, ◌≢◌, ◌⊎◌, inl, inr, ℕ, ◌==◌, Bool, true, false, List, Result, Ok, Err, refl, sym, ap, subst, ◌∙◌}
use Rattle.std.specs.Bool.{Decides}
use Rattle.std.specs.Str.{bytes_eq}
use Rattle.std.proofs.lemmas.Bool.{false≢true}
use Rattle.std.proofs.lemmas.Bool.Decides.{Decides-eqb}
use Rattle.std.proofs.lemmas.Slice.Eq.{bytes_eq-Decides}
use Rattle.transaction.specs.declared.block_version.BlockVersion.{BlockVersion}
use Rattle.block.specs.declared.block.Block.{Block}
use Rattle.block.specs.declared.block.Previous.{Previous}
use Rattle.block.specs.declared.block.Previous.TheVariants.{Empty, Hash}
use Rattle.block.specs.declared.fault.BlockFault.{BlockFault}
use Rattle.block.specs.Grammar.{Spells}
use Rattle.block.specs.Faults.{HasFault}
use Rattle.channel.specs.Configuration.{Configuration}
use Rattle.policy_eval.specs.Accepts.{Accepts}
use Rattle.rules.specs.declared.answer.Accepted.{Accepted}
use Rattle.rules.specs.declared.answer.Refused.{Refused}
use Rattle.rules.specs.declared.answer.Refused.TheVariants.{Malformed, WrongNumber, WrongPrevious, WrongDataHash, OldVersion, Memory}
use Rattle.header_hash.specs.Hashes.{data_hash_of}
use Rattle.rules.specs.World.{World, height_of, last_header_hash, previous_from, last_version}
use Rattle.rules.specs.Linked.{is_older, HasNumber, HasPrevious, HasDataHash, HasVersion, IsLinked, IsUnlinked, IsRefused}
use Rattle.rules.specs.Commit.{world_after}
use Rattle.rules.specs.Step.{accepted_of, Step}

-- what the block grammar's laws say
pub record ReadsOnce : Type 0 where
  pub one_block : (bytes : List ℕ) (a b : Block) → Spells bytes a → Spells bytes b → a ≡ b
  pub one_fault : (bytes : List ℕ) (f g : BlockFault) → HasFault bytes f → HasFault bytes g → f ≡ g
  pub block_or_fault : (bytes : List ℕ) (b : Block) (f : BlockFault) → Spells bytes b → HasFault bytes f → ⊥

older_or_not : (v : BlockVersion) (b c : Block) → c ≡ b → is_older c.version v ≡ true → is_older b.version v ≡ false → ⊥
older_or_not v b c same older not_older = let wrong : false ≡ true = sym not_older ∙ ap (λ (x : Block). is_older x.version v) (sym same) ∙ older in false≢true wrong

module _ (laws : ReadsOnce) (w : World) (bytes : List ℕ) where
  number_of_both : (a b : Block) → Spells bytes a → Spells bytes b → HasNumber w b → HasNumber w a
  number_of_both a b s t h = subst (λ (x : Block). HasNumber w x) (laws.one_block bytes b a t s) h

  previous_of_both : (a b : Block) → Spells bytes a → Spells bytes b → HasPrevious w b → HasPrevious w a
  previous_of_both a b s t h = subst (λ (x : Block). HasPrevious w x) (laws.one_block bytes b a t s) h

  data_hash_of_both : (a b : Block) → Spells bytes a → Spells bytes b → HasDataHash b → HasDataHash a
  data_hash_of_both a b s t h = subst (λ (x : Block). HasDataHash x) (laws.one_block bytes b a t s) h

  version_of_both : (a b : Block) → Spells bytes a → Spells bytes b → HasVersion w b → HasVersion w a
  version_of_both a b s t h = subst (λ (x : Block). HasVersion w x) (laws.one_block bytes b a t s) h

  one_refusal : (r s : Refused) → IsRefused w bytes r → IsRefused w bytes s → r ≢ Memory → s ≢ Memory → r ≡ s
  one_refusal (Malformed f) (Malformed g) x y p q = ap Malformed (laws.one_fault bytes f g x y)
  one_refusal (Malformed f) (WrongNumber want got) x y p q = absurd (laws.block_or_fault bytes y.0 f y.1 x)
  one_refusal (Malformed f) WrongPrevious x y p q = absurd (laws.block_or_fault bytes y.0 f y.1 x)
  one_refusal (Malformed f) WrongDataHash x y p q = absurd (laws.block_or_fault bytes y.0 f y.1 x)
  one_refusal (WrongNumber want got) (Malformed f) x y p q = absurd (laws.block_or_fault bytes x.0 f x.1 y)
  one_refusal (WrongNumber want got) (WrongNumber want' got') x y p q =
      ap (λ (n : ℕ). WrongNumber n got) (x.2.1 ∙ sym y.2.1) ∙ ap (λ (n : ℕ). WrongNumber want' n) (x.2.2 ∙ ap (λ (b : Block). b.header.number) (laws.one_block bytes x.0 y.0 x.1 y.1) ∙ sym y.2.2)
  one_refusal (WrongNumber want got) WrongPrevious x y p q = absurd (x.2.0 (number_of_both x.0 y.0 x.1 y.1 y.2.0))
  one_refusal (WrongNumber want got) WrongDataHash x y p q = absurd (x.2.0 (number_of_both x.0 y.0 x.1 y.1 y.2.0))
  one_refusal WrongPrevious (Malformed f) x y p q = absurd (laws.block_or_fault bytes x.0 f x.1 y)
  one_refusal WrongPrevious (WrongNumber want got) x y p q = absurd (y.2.0 (number_of_both y.0 x.0 y.1 x.1 x.2.0))
  one_refusal WrongPrevious WrongPrevious x y p q = refl
  one_refusal WrongPrevious WrongDataHash x y p q = absurd (x.2.1 (previous_of_both x.0 y.0 x.1 y.1 y.2.1))
  one_refusal WrongDataHash (Malformed f) x y p q = absurd (laws.block_or_fault bytes x.0 f x.1 y)
  one_refusal WrongDataHash (WrongNumber want got) x y p q = absurd (y.2.0 (number_of_both y.0 x.0 y.1 x.1 x.2.0))
  one_refusal WrongDataHash WrongPrevious x y p q = absurd (y.2.1 (previous_of_both y.0 x.0 y.1 x.1 x.2.1))
  one_refusal WrongDataHash WrongDataHash x y p q = refl
  one_refusal (Malformed f) OldVersion x y p q = absurd (laws.block_or_fault bytes y.0 f y.1 x)
  one_refusal (WrongNumber want got) OldVersion x y p q = absurd (x.2.0 (number_of_both x.0 y.0 x.1 y.1 y.2.0))
  one_refusal WrongPrevious OldVersion x y p q = absurd (x.2.1 (previous_of_both x.0 y.0 x.1 y.1 y.2.1))
  one_refusal WrongDataHash OldVersion x y p q = absurd (x.2.2 (data_hash_of_both x.0 y.0 x.1 y.1 y.2.2))
  one_refusal OldVersion (Malformed f) x y p q = absurd (laws.block_or_fault bytes x.0 f x.1 y)
  one_refusal OldVersion (WrongNumber want got) x y p q = absurd (y.2.0 (number_of_both y.0 x.0 y.1 x.1 x.2.0))
  one_refusal OldVersion WrongPrevious x y p q = absurd (y.2.1 (previous_of_both y.0 x.0 y.1 x.1 x.2.1))
  one_refusal OldVersion WrongDataHash x y p q = absurd (y.2.2 (data_hash_of_both y.0 x.0 y.1 x.1 x.2.2))
  one_refusal OldVersion OldVersion x y p q = refl
  one_refusal OldVersion Memory x y p q = absurd (q refl)
  one_refusal Memory s x y p q = absurd (p refl)
  one_refusal (Malformed f) Memory x y p q = absurd (q refl)
  one_refusal (WrongNumber want got) Memory x y p q = absurd (q refl)
  one_refusal WrongPrevious Memory x y p q = absurd (q refl)
  one_refusal WrongDataHash Memory x y p q = absurd (q refl)

  accepted_or_refused : (b : Block) (r : Refused) → Spells bytes b → IsLinked w b → IsRefused w bytes r → r ≢ Memory → ⊥
  accepted_or_refused b (Malformed f) s l x p = laws.block_or_fault bytes b f s x
  accepted_or_refused b (WrongNumber want got) s l x p = x.2.0 (number_of_both x.0 b x.1 s l.number)
  accepted_or_refused b WrongPrevious s l x p = x.2.1 (previous_of_both x.0 b x.1 s l.previous)
  accepted_or_refused b WrongDataHash s l x p = x.2.2 (data_hash_of_both x.0 b x.1 s l.data_hash)
  accepted_or_refused b OldVersion s l x p = older_or_not (last_version w) b (x.0) (laws.one_block bytes x.0 b x.1 s) x.2.3 l.version
  accepted_or_refused b Memory s l x p = p refl

abbrev refused_answer : Refused → Result Accepted Refused
refused_answer r = Err r

abbrev accepted_answer : Accepted → Result Accepted Refused
accepted_answer a = Ok a

not_memory : (r : Refused) → refused_answer r ≢ Err Memory → r ≢ Memory
not_memory r h e = h (ap refused_answer e)

pub one_step_by : ReadsOnce → (channel : Configuration) (accepts : Accepts) (old a b : World) (bytes : List ℕ) (x y : Result Accepted Refused)
    → Step channel accepts old bytes x a → Step channel accepts old bytes y b → x ≢ Err Memory → y ≢ Err Memory → (x ≡ y) × (a ≡ b)
one_step_by laws channel accepts old a b bytes (Ok x) (Ok y) s t p q =
    let same : s.0 ≡ t.0 = laws.one_block bytes s.0 t.0 s.1 t.1 in
    (ap accepted_answer (s.3 ∙ ap (accepted_of channel accepts old) same ∙ sym t.3), s.4 ∙ ap (world_after channel accepts old bytes) same ∙ sym t.4)
one_step_by laws channel accepts old a b bytes (Ok x) (Err r) s t p q = absurd (accepted_or_refused laws old bytes s.0 r s.1 s.2 t.0 (not_memory r q))
one_step_by laws channel accepts old a b bytes (Err r) (Ok y) s t p q = absurd (accepted_or_refused laws old bytes t.0 r t.1 t.2 s.0 (not_memory r p))
one_step_by laws channel accepts old a b bytes (Err r) (Err r') s t p q =
    (ap refused_answer (one_refusal laws old bytes r r' s.0 t.0 (not_memory r p) (not_memory r' q)), s.1 ∙ sym t.1)

-- ---- and there is one

decided : {P : Type 0} (r : Bool) → Decides r P → P ⊎ (P → ⊥)
decided true d = inl (d.0 refl)
decided false d = inr (λ p. false≢true (d.1 p))

empty_is_no_hash : (h : List ℕ) → Empty ≡ Hash h → ⊥
empty_is_no_hash h e = absurd cc

hash_is : (g h : List ℕ) → Hash g ≡ Hash h → g ≡ h
hash_is g h e = cc

same_previous : (p q : Previous) → (p ≡ q) ⊎ (p ≢ q)
same_previous Empty Empty = inl refl
same_previous Empty (Hash h) = inr (empty_is_no_hash h)
same_previous (Hash g) Empty = inr (λ e. empty_is_no_hash g (sym e))
same_previous (Hash g) (Hash h) = by (decided (bytes_eq g h) (bytes_eq-Decides g h))
  where
    by : (g ≡ h) ⊎ (g ≢ h) → (Hash g ≡ Hash h) ⊎ (Hash g ≢ Hash h)
    by (inl e) = inl (ap Hash e)
    by (inr n) = inr (λ e. n (hash_is g h e))

accepted_is_no_refusal : (a : Accepted) → accepted_answer a ≡ Err Memory → ⊥
accepted_is_no_refusal a e = absurd cc

unlinked_or_not : (w : World) (b : Block) → IsLinked w b ⊎ ((r : Refused) × IsUnlinked w b r)
unlinked_or_not w b = by
    (decided (b.header.number == height_of w) (Decides-eqb b.header.number (height_of w)))
    (same_previous b.header.previous (previous_from (last_header_hash w)))
    (decided (bytes_eq b.header.data_hash (data_hash_of b.txs)) (bytes_eq-Decides b.header.data_hash (data_hash_of b.txs)))
    (is_older b.version (last_version w)) refl
  where
    by : HasNumber w b ⊎ (HasNumber w b → ⊥) → HasPrevious w b ⊎ (HasPrevious w b → ⊥) → HasDataHash b ⊎ (HasDataHash b → ⊥) → (o : Bool) → is_older b.version (last_version w) ≡ o → IsLinked w b ⊎ ((r : Refused) × IsUnlinked w b r)
    by (inl n) (inl p) (inl d) false v = inl (record { number = n; previous = p; data_hash = d; version = v })
    by (inl n) (inl p) (inl d) true v = inr (OldVersion, (n, p, d, v))
    by (inl n) (inl p) (inr d) o v = inr (WrongDataHash, (n, p, d))
    by (inl n) (inr p) d o v = inr (WrongPrevious, (n, p))
    by (inr n) p d o v = inr (WrongNumber (height_of w) b.header.number, (n, refl, refl))

unlinked_is_refused : (w : World) (bytes : List ℕ) (b : Block) (r : Refused) → Spells bytes b → IsUnlinked w b r → IsRefused w bytes r × (refused_answer r ≢ Err Memory)
unlinked_is_refused w bytes b (WrongNumber want got) s u = ((b, s, u), λ e. absurd cc)
unlinked_is_refused w bytes b WrongPrevious s u = ((b, s, u), λ e. absurd cc)
unlinked_is_refused w bytes b WrongDataHash s u = ((b, s, u), λ e. absurd cc)
unlinked_is_refused w bytes b OldVersion s u = ((b, s, u), λ e. absurd cc)
unlinked_is_refused w bytes b (Malformed f) s u = absurd u
unlinked_is_refused w bytes b Memory s u = absurd u

-- an answer that isn't want of memory, with the world after it
abbrev pub HasAnswer : Configuration → Accepts → World → List ℕ → Type 0
HasAnswer channel accepts old bytes = (x : Result Accepted Refused) × (new : World) × Step channel accepts old bytes x new × (x ≢ Err Memory)

pub some_step_by : (channel : Configuration) (accepts : Accepts) (old : World) (bytes : List ℕ)
    → ((b : Block) × Spells bytes b) ⊎ ((f : BlockFault) × HasFault bytes f) → HasAnswer channel accepts old bytes
some_step_by channel accepts old bytes (inl (b, s)) = by (unlinked_or_not old b)
  where
    by : IsLinked old b ⊎ ((r : Refused) × IsUnlinked old b r) → HasAnswer channel accepts old bytes
    by (inl l) = (Ok (accepted_of channel accepts old b), world_after channel accepts old bytes b, (b, s, l, refl, refl), accepted_is_no_refusal (accepted_of channel accepts old b))
    by (inr (r, u)) = let refused = unlinked_is_refused old bytes b r s u in (Err r, old, (refused.0, refl), refused.1)
some_step_by channel accepts old bytes (inr (f, h)) = (Err (Malformed f), old, (h, refl), λ e. absurd cc)
