use Rattle.std.proofs.Common.{◌≡◌, ◌++◌, length, option_map}
use Rattle.text_lines.specs.Words as spec
use Rattle.text_lines.proofs.words.spelled.Given as goal

-- the bytes so far, and those that the rest spells
abbrev pub invariant-loop-rest : goal.invariant-loop-rest
invariant-loop-rest l = option_map (λ more. l.bytes.items ++ more) (spec.spelled l.rest) ≡ spec.spelled l.text

abbrev pub decreases-loop-rest : goal.decreases-loop-rest
decreases-loop-rest l = length l.rest
