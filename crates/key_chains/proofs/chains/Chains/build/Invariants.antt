use Rattle.std.proofs.Common.{map}
use Rattle.candidates.specs.Seen.{seen}
use Rattle.key_chains.specs.Built.{IsBuilt}
use Rattle.key_chains.proofs.chains.Chains.build.Given as goal

abbrev pub invariant-loop-i : goal.invariant-loop-i
invariant-loop-i l = IsBuilt (map seen l.candidates) l.i l.i 0 l.chains
