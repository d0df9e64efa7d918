use Rattle.std.proofs.Common.{arith, ap, sym, ◌∙◌, Ok}
use Rattle.key_book.proofs.Keys.{decoded-is_key}
use Rattle.key_book.proofs.keyed.read_key.Goals as goal

pub returns-in-Ok-clause-size : goal.returns-in-Ok-clause-size
returns-in-Ok-clause-size c =
    decoded-is_key c.args.digits.now c.from_vec.result (omega (arith, c.if-digits-lt-MIN_DIGITS.false)) (omega (arith, c.if-digits-gt-MAX_DIGITS.false))
    (c.in-Ok.ensures.ok ∙ ap Ok (sym c.from_vec.ensures))
