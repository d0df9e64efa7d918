use Rattle.std.proofs.Common.{arith, w64}
use Rattle.std.specs.Prelude.{slice_index}
use Rattle.std.specs.Int.{trailing_zeros}
use Rattle.std.proofs.lemmas.Nat.Bits.{bit_at-trailing_zeros}
use Rattle.task_desk.proofs.Members.{none_in_word, first_in_word}
use Rattle.task_desk.proofs.bit_set.first_in_word.Goals as goal

pub returns-then-word-eq0 : goal.returns-then-word-eq0
returns-then-word-eq0 c = none_in_word c.args.words.now c.args.i c.if-word-eq0.true

pub returns : goal.returns
returns c =
    let word = slice_index c.args.words.now c.args.i in
    let low = bit_at-trailing_zeros w64 word (omega arith) (let fits = c.type_inv.words c.args.i in omega (arith, fits)) in
    first_in_word c.args.words.now c.args.i (trailing_zeros w64 word) low.0 low.1 low.2
