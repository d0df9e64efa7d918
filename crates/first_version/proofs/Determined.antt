-- The step of the first version has one answer and one world after it, out of memory aside.
use Rattle.std.proofs.Common.{◌≡◌, ◌≢◌, ◌⊎◌, ℕ, zero, suc, List, [], ◌∷◌, ◌++◌, ◌-◌, length, map, get_or, Result, Ok, Err, Option, Some, None, refl, sym, ap, subst, ◌∙◌, inl, inr, arith}
use Rattle.std.specs.Prelude.{option_map, unwrap_or, slice_get}
use Rattle.transaction.specs.declared.block_version.BlockVersion.{BlockVersion}
use Rattle.transaction.specs.declared.block_version.BlockVersion.TheVariants.{V1, V2}
use Rattle.block.specs.declared.block.Block as versioned
use Rattle.block.specs.declared.fault.BlockFault.{BlockFault}
use Rattle.block.specs.declared.fault.BlockFault.TheVariants.{BadMagic, Truncated, PreviousLength, TooManyTxs, TxTooLong, TrailingBytes, Memory as NoMemory}
use Rattle.block.specs.Grammar as grammar
use Rattle.block.specs.Faults as now_faults
use Rattle.block.specs.first_version.Grammar.{Block, Spells, magic}
use Rattle.block.specs.first_version.Faults.{HasFault}
use Rattle.policy.specs.Policies.{Policies}
use Rattle.policy_eval.specs.Accepts.{Accepts}
use Rattle.channel.specs.Configuration as channel
use Rattle.rules.specs.declared.answer.Accepted as now
use Rattle.rules.specs.declared.answer.Refused.{Refused}
use Rattle.rules.specs.declared.answer.Refused.TheVariants.{Malformed, WrongNumber, WrongPrevious, WrongDataHash, OldVersion, Memory}
use Rattle.rules.specs.declared.committed.CommittedBlock as kept
use Rattle.rules.specs.World as world
use Rattle.rules.specs.Step as step
use Rattle.first_version.specs.Answer.{CommittedBlock, Accepted}
use Rattle.first_version.specs.Configuration.{Configuration}
use Rattle.first_version.specs.World.{World}
use Rattle.first_version.specs.Linked.{IsLinked, IsUnlinked, IsRefused}
use Rattle.first_version.specs.Commit.{world_after}
use Rattle.first_version.specs.Step.{accepted_of, Step}
use Rattle.first_version.specs.Seen.{seen_channel, seen_block, seen, seen_answer, IsFirst, IsNoSecond}
use Rattle.first_version.proofs.AsBefore.{step_as_before}

-- ---- one answer

-- what is proved of the grammar of version 1
pub record ReadsOnce : Type 0 where
  pub one_block : (bytes : List ℕ) (a b : Block) → Spells bytes a → Spells bytes b → a ≡ b
  pub one_fault : (bytes : List ℕ) (f g : BlockFault) → HasFault bytes f → HasFault bytes g → f ≡ g
  pub block_or_fault : (bytes : List ℕ) (b : Block) (f : BlockFault) → Spells bytes b → HasFault bytes f → ⊥

-- a refusal other than out of memory is of bytes that encode no block, or of a block
abbrev IsOfBytes : List ℕ → Refused → Type 0
IsOfBytes bytes r = (f : BlockFault) × (r ≡ Malformed f) × HasFault bytes f

abbrev IsOfBlock : World → List ℕ → Refused → Type 0
IsOfBlock w bytes r = (b : Block) × Spells bytes b × IsUnlinked w b r

of_bytes_or_block : (w : World) (bytes : List ℕ) (r : Refused) → IsRefused w bytes r → r ≢ Memory → IsOfBytes bytes r ⊎ IsOfBlock w bytes r
of_bytes_or_block w bytes (Malformed f) h other = inl (f, refl, h)
of_bytes_or_block w bytes (WrongNumber want got) h other = inr h
of_bytes_or_block w bytes WrongPrevious h other = inr h
of_bytes_or_block w bytes WrongDataHash h other = inr h
of_bytes_or_block w bytes OldVersion h other = absurd h
of_bytes_or_block w bytes Memory h other = absurd (other refl)

module _ (w : World) (b : Block) where
  one_reason : (r s : Refused) → IsUnlinked w b r → IsUnlinked w b s → r ≡ s
  one_reason (WrongNumber want got) (WrongNumber want' got') x y = λ i. WrongNumber ((x.1 ∙ sym y.1) i) ((x.2 ∙ sym y.2) i)
  one_reason (WrongNumber want got) WrongPrevious x y = absurd (x.0 y.0)
  one_reason (WrongNumber want got) WrongDataHash x y = absurd (x.0 y.0)
  one_reason WrongPrevious (WrongNumber want got) x y = absurd (y.0 x.0)
  one_reason WrongPrevious WrongPrevious x y = refl
  one_reason WrongPrevious WrongDataHash x y = absurd (x.1 y.1)
  one_reason WrongDataHash (WrongNumber want got) x y = absurd (y.0 x.0)
  one_reason WrongDataHash WrongPrevious x y = absurd (y.1 x.1)
  one_reason WrongDataHash WrongDataHash x y = refl
  one_reason (Malformed f) s x y = absurd x
  one_reason OldVersion s x y = absurd x
  one_reason Memory s x y = absurd x
  one_reason (WrongNumber want got) (Malformed f) x y = absurd y
  one_reason (WrongNumber want got) OldVersion x y = absurd y
  one_reason (WrongNumber want got) Memory x y = absurd y
  one_reason WrongPrevious (Malformed f) x y = absurd y
  one_reason WrongPrevious OldVersion x y = absurd y
  one_reason WrongPrevious Memory x y = absurd y
  one_reason WrongDataHash (Malformed f) x y = absurd y
  one_reason WrongDataHash OldVersion x y = absurd y
  one_reason WrongDataHash Memory x y = absurd y

  linked_or_not : (r : Refused) → IsLinked w b → IsUnlinked w b r → ⊥
  linked_or_not (WrongNumber want got) l x = x.0 l.number
  linked_or_not WrongPrevious l x = x.1 l.previous
  linked_or_not WrongDataHash l x = x.2 l.data_hash
  linked_or_not (Malformed f) l x = x
  linked_or_not OldVersion l x = x
  linked_or_not Memory l x = x

module _ (laws : ReadsOnce) (w : World) (bytes : List ℕ) where
  one_refusal : (r s : Refused) → IsOfBytes bytes r ⊎ IsOfBlock w bytes r → IsOfBytes bytes s ⊎ IsOfBlock w bytes s → r ≡ s
  one_refusal r s (inl x) (inl y) = x.1 ∙ ap Malformed (laws.one_fault bytes x.0 y.0 x.2 y.2) ∙ sym y.1
  one_refusal r s (inl x) (inr y) = absurd (laws.block_or_fault bytes y.0 x.0 y.1 x.2)
  one_refusal r s (inr x) (inl y) = absurd (laws.block_or_fault bytes x.0 y.0 x.1 y.2)
  one_refusal r s (inr x) (inr y) = one_reason w x.0 r s x.2 (subst (λ (b : Block). IsUnlinked w b s) (laws.one_block bytes y.0 x.0 y.1 x.1) y.2)

  accepted_or_refused : (b : Block) (r : Refused) → Spells bytes b → IsLinked w b → IsOfBytes bytes r ⊎ IsOfBlock w bytes r → ⊥
  accepted_or_refused b r s l (inl x) = laws.block_or_fault bytes b x.0 s x.2
  accepted_or_refused b r s l (inr x) = linked_or_not w b r l (subst (λ (c : Block). IsUnlinked w c r) (laws.one_block bytes x.0 b x.1 s) x.2)

abbrev refused_answer : Refused → Result Accepted Refused
refused_answer r = Err r

abbrev accepted_answer : Accepted → Result Accepted Refused
accepted_answer a = Ok a

not_memory : (r : Refused) → refused_answer r ≢ Err Memory → r ≢ Memory
not_memory r h e = h (ap refused_answer e)

pub one_step_by : ReadsOnce → (channel : Configuration) (accepts : Accepts) (old a b : World) (bytes : List ℕ) (x y : Result Accepted Refused)
    → Step channel accepts old bytes x a → Step channel accepts old bytes y b → x ≢ Err Memory → y ≢ Err Memory → (x ≡ y) × (a ≡ b)
one_step_by laws channel accepts old a b bytes (Ok x) (Ok y) s t p q =
    let same : s.0 ≡ t.0 = laws.one_block bytes s.0 t.0 s.1 t.1 in
    (ap accepted_answer (s.3 ∙ ap (accepted_of channel accepts old) same ∙ sym t.3), s.4 ∙ ap (world_after channel accepts old bytes) same ∙ sym t.4)
one_step_by laws channel accepts old a b bytes (Ok x) (Err r) s t p q =
    absurd (accepted_or_refused laws old bytes s.0 r s.1 s.2 (of_bytes_or_block old bytes r t.0 (not_memory r q)))
one_step_by laws channel accepts old a b bytes (Err r) (Ok y) s t p q =
    absurd (accepted_or_refused laws old bytes t.0 r t.1 t.2 (of_bytes_or_block old bytes r s.0 (not_memory r p)))
one_step_by laws channel accepts old a b bytes (Err r) (Err r') s t p q =
    let first = of_bytes_or_block old bytes r s.0 (not_memory r p) in
    let second = of_bytes_or_block old bytes r' t.0 (not_memory r' q) in
    (ap refused_answer (one_refusal laws old bytes r r' first second), s.1 ∙ sym t.1)

-- ---- and one exists: that of today, if the bytes are of version 1

-- a world of today whose blocks are all of version 1
abbrev kept_of : CommittedBlock → kept.CommittedBlock
kept_of b = record { bytes = b.bytes; header_hash = b.header_hash; commit_hash = []; version = V1; flags = b.flags }

abbrev pub world_of : Policies → World → world.World
world_of definitions w = record { state = w.state; history = w.history; first_uses = w.first_uses; definitions = definitions; blocks = map kept_of w.blocks }

abbrev pub channel_of : Configuration → channel.Configuration
channel_of c = record { name = c.name; definitions = c.definitions; admin = None }

seen_again : (bs : List CommittedBlock) → map seen_block (map kept_of bs) ≡ bs
seen_again [] = refl
seen_again (b ∷ bs) = ap (λ (l : List CommittedBlock). b ∷ l) (seen_again bs)

seen_world : (definitions : Policies) (w : World) → seen (world_of definitions w) ≡ w
seen_world definitions w = λ i. record { state = w.state; history = w.history; first_uses = w.first_uses; blocks = seen_again w.blocks i }

all_first : (bs : List CommittedBlock) (n : ℕ) → unwrap_or (option_map (λ (b : kept.CommittedBlock). b.version) (slice_get (map kept_of bs) n)) V1 ≡ V1
all_first [] n = refl
all_first (b ∷ bs) zero = refl
all_first (b ∷ bs) (suc n) = all_first bs n

is_first : (definitions : Policies) (w : World) → IsFirst (world_of definitions w)
is_first definitions w = all_first w.blocks (length (map kept_of w.blocks) - 1)

-- ---- bytes of version 2 are none of version 1

abbrev IsSecond : List ℕ → Type 0
IsSecond bytes = (rest : List ℕ) × (bytes ≡ grammar.magic_of V2 ++ rest)

two_magics : (bytes rest behind : List ℕ) → bytes ≡ grammar.magic_of V1 ++ rest → bytes ≡ grammar.magic_of V2 ++ behind → ⊥
two_magics bytes rest behind e f = let fourth = ap (λ (l : List ℕ). get_or l 3 0) (sym e ∙ f) in absurd (omega (arith, fourth))

by_version : (bytes rest : List ℕ) (version : BlockVersion) → bytes ≡ grammar.magic_of version ++ rest → IsNoSecond bytes ⊎ IsSecond bytes
by_version bytes rest V1 e = inl (λ behind f. two_magics bytes rest behind e f)
by_version bytes rest V2 e = inr (rest, e)

abbrev pub Reading : List ℕ → Type 0
Reading bytes = ((b : versioned.Block) × grammar.Spells bytes b) ⊎ ((f : BlockFault) × now_faults.HasFault bytes f)

second_or_not : (bytes : List ℕ) → Reading bytes → IsNoSecond bytes ⊎ IsSecond bytes
second_or_not bytes (inl (b, s)) = by_version bytes _ b.version s.fields
second_or_not bytes (inr (BadMagic, h)) = inl (h V2)
second_or_not bytes (inr (Truncated, h)) = by_version bytes h.1 h.0 h.2
second_or_not bytes (inr (PreviousLength, h)) = by_version bytes h.1 h.0 h.2
second_or_not bytes (inr (TooManyTxs, h)) = by_version bytes h.1 h.0 h.2
second_or_not bytes (inr (TxTooLong, h)) = by_version bytes h.1 h.0 h.2
second_or_not bytes (inr (TrailingBytes, h)) = by_version bytes h.1 h.0 h.2
second_or_not bytes (inr (NoMemory, h)) = absurd h

abbrev pub HasAnswer : Configuration → Accepts → World → List ℕ → Type 0
HasAnswer channel accepts old bytes = (x : Result Accepted Refused) × (new : World) × Step channel accepts old bytes x new × (x ≢ Err Memory)

-- the same of today
abbrev pub HasAnswerNow : channel.Configuration → Accepts → world.World → List ℕ → Type 0
HasAnswerNow channel accepts old bytes = (x : Result now.Accepted Refused) × (new : world.World) × step.Step channel accepts old bytes x new × (x ≢ Err Memory)

abbrev refused_now : Refused → Result now.Accepted Refused
refused_now r = Err r

refused_is : (r s : Refused) → refused_answer r ≡ refused_answer s → r ≡ s
refused_is r s e = cc

still_not_memory : (x : Result now.Accepted Refused) → x ≢ Err Memory → seen_answer x ≢ Err Memory
still_not_memory (Ok a) other e = absurd cc
still_not_memory (Err r) other e = other (ap refused_now (refused_is r Memory e))

pub some_step_by : (channel : Configuration) (accepts : Accepts) (old : World) (bytes : List ℕ)
    → Reading bytes → HasAnswerNow (channel_of channel) accepts (world_of channel.definitions old) bytes
    → (x : Result Accepted Refused) × (new : World) × Step channel accepts old bytes x new × (x ≢ Err Memory)
some_step_by channel accepts old bytes reading (x, new, s, other) = by (second_or_not bytes reading)
  where
    by : IsNoSecond bytes ⊎ IsSecond bytes → HasAnswer channel accepts old bytes
    by (inl none) =
        let first = step_as_before (channel_of channel) accepts (world_of channel.definitions old) new bytes x s (is_first channel.definitions old) none in
        (seen_answer x, seen new, subst (λ (w : World). Step channel accepts w bytes (seen_answer x) (seen new)) (seen_world channel.definitions old) first.0, still_not_memory x other)
    by (inr (rest, e)) = (Err (Malformed BadMagic), old, ((λ behind f. two_magics bytes behind rest f e), refl), λ e. absurd cc)
