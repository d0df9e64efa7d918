-- What is proved of the grammar of version 1: bytes are one block or have one fault, and not both.
use Rattle.std.proofs.Common.{◌≡◌, ◌⊎◌, ℕ, List, Result, Ok, Err, refl, sym, ◌∙◌, inl, inr}
use Rattle.block.specs.declared.fault.BlockFault.{BlockFault}
use Rattle.block.specs.first_version.Grammar.{Block, Spells}
use Rattle.block.specs.first_version.Faults.{HasFault}
use Rattle.block.specs.Reading.{block_at}
use Rattle.values.proofs.Numbers.{IsBytes}
use Rattle.block.proofs.Steps.{ok_is, ok_not_err}
use Rattle.block.proofs.Blocks.{block_taken, block_again}
use Rattle.block.proofs.Faulty.{block_fails}
use Rattle.block.proofs.FaultyAgain.{block_fails_again}

abbrev fault_read : BlockFault → Result Block BlockFault
fault_read f = Err f

err_is : (f g : BlockFault) → fault_read f ≡ fault_read g → f ≡ g
err_is f g e = cc

pub one_block : (bytes : List ℕ) (a b : Block) → Spells bytes a → Spells bytes b → a ≡ b
one_block bytes a b s t = ok_is a b (sym (block_again a bytes s) ∙ block_again b bytes t)

pub one_spelling : (x y : List ℕ) (b : Block) → Spells x b → Spells y b → x ≡ y
one_spelling x y b s t = s.fields ∙ sym t.fields

pub one_fault : (bytes : List ℕ) (f g : BlockFault) → HasFault bytes f → HasFault bytes g → f ≡ g
one_fault bytes f g s t = err_is f g (sym (block_fails_again bytes f s) ∙ block_fails_again bytes g t)

pub block_or_fault : (bytes : List ℕ) (b : Block) (f : BlockFault) → Spells bytes b → HasFault bytes f → ⊥
block_or_fault bytes b f s t = ok_not_err b f (sym (block_again b bytes s) ∙ block_fails_again bytes f t)

pub some_reading : (bytes : List ℕ) → IsBytes bytes → ((b : Block) × Spells bytes b) ⊎ ((f : BlockFault) × HasFault bytes f)
some_reading bytes fits = by (block_at bytes) refl
  where
    by : (r : Result Block BlockFault) → block_at bytes ≡ r → ((b : Block) × Spells bytes b) ⊎ ((f : BlockFault) × HasFault bytes f)
    by (Ok b) e = inl (b, block_taken bytes b fits e)
    by (Err f) e = inr (f, block_fails bytes f fits e)
