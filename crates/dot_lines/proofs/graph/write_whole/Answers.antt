use Rattle.std.proofs.Common.{◌++◌, codes, length}
use Rattle.cli_lines.proofs.Written.{then}
use Rattle.dot_lines.specs.Graph.{opening, first_lines}
use Rattle.dot_lines.proofs.graph.write_whole.Goals as goal

pub returns : goal.returns
returns g c =
    let holds = g.W.Write.contents in
    let reasons = c.args.reasons.now in
    let front = opening c.args.number in
    let lines = first_lines c.args.all reasons (length reasons) in
    let back = codes "}\n" in
    then (holds c.args.out.now) (holds c.write_opening.new.out) (holds c.writeln.new.self) front (lines ++ back) c.in_ok-write_opening.ensures
    (then (holds c.write_opening.new.out) (holds c.write_places.new.out) (holds c.writeln.new.self) lines back c.in_ok-write_places.ensures c.in_ok-writeln.ensures.bytes)
