use Rattle.header_hash.proofs.MinimalIntegers.{integers_are_minimal}
use Rattle.header_hash.proofs.der.integers_are_minimal.Goals as goal

pub returns : goal.returns
returns c = integers_are_minimal
