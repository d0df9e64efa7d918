use Rattle.std.proofs.Common.{◌≡◌, take, map}
use Rattle.std.specs.Prelude.{flat_map}
use Rattle.candidates.specs.Seen.{seen}
use Rattle.key_chains.specs.Job.{written_by}
use Rattle.key_chains.proofs.chains.written_keys.Given as goal

abbrev pub invariant-loop-candidate : goal.invariant-loop-candidate
invariant-loop-candidate l = l.keys.items ≡ flat_map written_by (map seen (take l.candidate-index l.candidates))
