use Rattle.std.proofs.Common.{◌++◌, codes}
use Rattle.std.specs.Fmt.{decimal}
use Rattle.cli_lines.proofs.Written.{then}
use Rattle.dot_lines.specs.Graph.{style}
use Rattle.dot_lines.proofs.graph.write_opening.Goals as goal

pub returns : goal.returns
returns g c =
    let holds = g.W.Write.contents in
    let front = codes "digraph \"block " ++ (decimal c.args.number ++ codes "\" {\n") in
    then (holds c.args.out.now) (holds c.writeln.new.self) (holds c.write_style.new.out) front style c.in_ok-writeln.ensures.bytes c.in_ok-write_style.ensures
