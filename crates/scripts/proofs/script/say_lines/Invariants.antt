use Rattle.std.proofs.Common.{◌≡◌}
use Rattle.text_lines.specs.Lines.{statements}
use Rattle.scripts.specs.Script.{script_from}
use Rattle.scripts.proofs.script.say_lines.Given as goal

-- the lines that are left, behind those so far, say what all lines say
abbrev pub invariant-loop-statement : goal.invariant-loop-statement
invariant-loop-statement l = script_from l.version l.keys l.so_far l.statement-iterator ≡ script_from l.version l.keys l.fn.so_far (statements l.text)
