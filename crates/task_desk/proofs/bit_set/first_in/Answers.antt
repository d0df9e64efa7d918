use Rattle.std.proofs.Common.{arith, w64}
use Rattle.std.specs.Prelude.{slice_index}
use Rattle.std.specs.Int.{trailing_zeros}
use Rattle.std.proofs.lemmas.Nat.Bits.{bit_at-trailing_zeros}
use Rattle.task_desk.proofs.Members.{first_set}
use Rattle.task_desk.proofs.bit_set.first_in.Goals as goal

pub returns-then-word-ne0 : goal.returns-then-word-ne0
returns-then-word-ne0 c =
    let word = slice_index c.args.words.now c.loop-i.i in
    let low = bit_at-trailing_zeros w64 word (omega arith) (let fits = c.type_inv.words c.loop-i.i in omega (arith, fits)) in
    first_set c.args.words.now c.loop-i.i (trailing_zeros w64 word) low.0 low.1 low.2 c.loop-i.invariant
