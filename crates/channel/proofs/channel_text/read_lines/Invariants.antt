use Rattle.std.proofs.Common.{◌≡◌}
use Rattle.text_lines.specs.Lines.{statements}
use Rattle.channel.specs.Text as spec
use Rattle.channel.proofs.channel_text.read_lines.Given as goal

-- the lines that are left, read after those so far, are all lines
abbrev pub invariant-loop-statement : goal.invariant-loop-statement
invariant-loop-statement l = spec.said_from l.so_far l.statement-iterator ≡ spec.said_from spec.nothing_said (statements l.text)
