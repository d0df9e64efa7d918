-- Injective codes of what contracts see, which the prover asks for.
use Rattle.std.specs.Coded.{Coded}
use Rattle.rules.specs.contracts.delta.Delta as delta
use Rattle.rules.specs.declared.delta.Delta.{Delta}

abbrev pub delta_code : Coded Delta
delta_code = (delta.the_row).coded
