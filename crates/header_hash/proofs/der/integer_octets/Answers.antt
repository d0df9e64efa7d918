use Rattle.std.proofs.Common.{sym, ◌∙◌, arith}
use Rattle.header_hash.proofs.IntegerOctets.{bits_and_sign, integer_octets-leading_zeros}
use Rattle.header_hash.proofs.der.integer_octets.Goals as goal

pub returns-clause-count : goal.returns-clause-count
returns-clause-count c =
    c.div_ceil.ensures ∙ bits_and_sign _ ∙ sym (integer_octets-leading_zeros c.args.number (omega arith))
