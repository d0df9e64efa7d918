-- What the result of reading shows about the bytes.
use Rattle.std.proofs.Common.{◌≡◌, ◌⊎◌, ℕ, List, Result, Ok, Err, refl, sym, ◌∙◌, inl, inr}
use Rattle.std.specs.Prelude.{IfOk, IfErr}
use Rattle.values.specs.Memory.{GivesUnless}
use Rattle.block.specs.declared.block.Block.{Block}
use Rattle.block.specs.declared.fault.BlockFault.{BlockFault}
use Rattle.block.specs.declared.fault.BlockFault.TheVariants.{BadMagic, Truncated, PreviousLength, TooManyTxs, TxTooLong, TrailingBytes, Memory}
use Rattle.block.specs.Grammar.{Spells}
use Rattle.block.specs.Faults.{HasFault}
use Rattle.block.specs.Reading.{Gives, versioned_at}
use Rattle.block.proofs.Steps.{ok_is}
use Rattle.values.proofs.Numbers.{IsBytes}
use Rattle.block.proofs.Versions.{block_taken, block_again, block_fails, block_fails_again}

abbrev Answer : Type 0
Answer = Result Block BlockFault

abbrev IsGiven : Answer → Answer → Type 0
IsGiven r read = Gives (λ b. b) r read

-- the answer is the result of reading, or Memory
given_or_memory : (r read : Answer) → IsGiven r read → GivesUnless Memory r read
given_or_memory (Ok b) read h = inl (sym h)
given_or_memory (Err BadMagic) read h = inl (sym h)
given_or_memory (Err Truncated) read h = inl (sym h)
given_or_memory (Err PreviousLength) read h = inl (sym h)
given_or_memory (Err TooManyTxs) read h = inl (sym h)
given_or_memory (Err TxTooLong) read h = inl (sym h)
given_or_memory (Err TrailingBytes) read h = inl (sym h)
given_or_memory (Err Memory) read h = inr refl

pub is_spelled : (bytes : List ℕ) (r : Answer) → IsBytes bytes → IsGiven r (versioned_at bytes) → IfOk r (λ b. Spells bytes b)
is_spelled bytes (Ok b) fits h = block_taken bytes b fits h
is_spelled bytes (Err f) fits h = tt

pub is_one_block : (bytes : List ℕ) (r : Answer) → IsGiven r (versioned_at bytes) → IfOk r (λ b. (other : Block) → Spells bytes other → other ≡ b)
is_one_block bytes (Ok b) h = λ other spells. ok_is other b (sym (block_again other bytes spells) ∙ h)
is_one_block bytes (Err f) h = tt

-- no value has two encodings
pub one_spelling : (x y : List ℕ) (b : Block) → Spells x b → Spells y b → x ≡ y
one_spelling x y b s t = s.fields ∙ sym t.fields

pub is_one_spelling : (bytes : List ℕ) (r : Answer) → IsBytes bytes → IsGiven r (versioned_at bytes) → IfOk r (λ b. (other : List ℕ) → Spells other b → other ≡ bytes)
is_one_spelling bytes (Ok b) fits h = λ other spells. one_spelling other bytes b spells (block_taken bytes b fits h)
is_one_spelling bytes (Err f) fits h = tt

along : (r : Answer) (read wanted : Answer) → read ≡ wanted → IsGiven r read → GivesUnless Memory r wanted
along r read wanted e h = rw (← e) (given_or_memory r read h)

pub is_read : (bytes : List ℕ) (r : Answer) (b : Block) → IsGiven r (versioned_at bytes) → Spells bytes b → GivesUnless Memory r (Ok b)
is_read bytes r b h spells = along r (versioned_at bytes) (Ok b) (block_again b bytes spells) h

pub is_faulty : (bytes : List ℕ) (r : Answer) → IsBytes bytes → IsGiven r (versioned_at bytes) → IfErr r (λ f. (f ≡ Memory) ⊎ HasFault bytes f)
is_faulty bytes (Ok b) fits h = tt
is_faulty bytes (Err BadMagic) fits h = inr (block_fails bytes BadMagic fits h)
is_faulty bytes (Err Truncated) fits h = inr (block_fails bytes Truncated fits h)
is_faulty bytes (Err PreviousLength) fits h = inr (block_fails bytes PreviousLength fits h)
is_faulty bytes (Err TooManyTxs) fits h = inr (block_fails bytes TooManyTxs fits h)
is_faulty bytes (Err TxTooLong) fits h = inr (block_fails bytes TxTooLong fits h)
is_faulty bytes (Err TrailingBytes) fits h = inr (block_fails bytes TrailingBytes fits h)
is_faulty bytes (Err Memory) fits h = inl refl

pub is_refused : (bytes : List ℕ) (r : Answer) (f : BlockFault) → IsGiven r (versioned_at bytes) → HasFault bytes f → GivesUnless Memory r (Err f)
is_refused bytes r f h faulty = along r (versioned_at bytes) (Err f) (block_fails_again bytes f faulty) h

-- ---- what is proved of the grammar

abbrev block_read : Block → Answer
block_read b = Ok b

abbrev fault_read : BlockFault → Answer
fault_read f = Err f

err_is : (f g : BlockFault) → fault_read f ≡ fault_read g → f ≡ g
err_is f g e = cc

block_not_fault : (b : Block) (f : BlockFault) → block_read b ≡ fault_read f → ⊥
block_not_fault b f e = absurd cc

pub one_block : (bytes : List ℕ) (a b : Block) → Spells bytes a → Spells bytes b → a ≡ b
one_block bytes a b s t = ok_is a b (sym (block_again a bytes s) ∙ block_again b bytes t)

pub one_fault : (bytes : List ℕ) (f g : BlockFault) → HasFault bytes f → HasFault bytes g → f ≡ g
one_fault bytes f g s t = err_is f g (sym (block_fails_again bytes f s) ∙ block_fails_again bytes g t)

pub block_or_fault : (bytes : List ℕ) (b : Block) (f : BlockFault) → Spells bytes b → HasFault bytes f → ⊥
block_or_fault bytes b f s t = block_not_fault b f (sym (block_again b bytes s) ∙ block_fails_again bytes f t)

-- bytes are a block, or have a fault
pub some_reading : (bytes : List ℕ) → IsBytes bytes → ((b : Block) × Spells bytes b) ⊎ ((f : BlockFault) × HasFault bytes f)
some_reading bytes fits = by (versioned_at bytes) refl
  where
    by : (r : Answer) → versioned_at bytes ≡ r → ((b : Block) × Spells bytes b) ⊎ ((f : BlockFault) × HasFault bytes f)
    by (Ok b) e = inl (b, block_taken bytes b fits e)
    by (Err f) e = inr (f, block_fails bytes f fits e)
