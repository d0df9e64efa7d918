use Rattle.std.specs.Io.KnownBytes.{Appends}
use Rattle.dot_lines.specs.Graph.{first_lines}
use Rattle.dot_lines.proofs.graph.write_places.Given as goal

abbrev pub invariant-loop-place : goal.invariant-loop-place
invariant-loop-place g l = Appends (g.W.Write.contents l.fn.out) (g.W.Write.contents l.out) (first_lines l.all l.reasons l.place)
