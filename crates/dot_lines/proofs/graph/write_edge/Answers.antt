use Rattle.std.proofs.Common.{◌++◌, codes}
use Rattle.cli_lines.proofs.Written.{then}
use Rattle.dot_lines.specs.Edges.{label_of}
use Rattle.dot_lines.specs.Graph.{earlier_node, arrow}
use Rattle.dot_lines.proofs.graph.write_edge.Goals as goal

pub returns : goal.returns
returns g c =
    let holds = g.W.Write.contents in
    let end = holds c.writeln.new.self in
    let node = earlier_node c.args.named in
    let front = arrow c.args.place c.args.named in
    let label = label_of c.args.reason.now in
    let back = codes "\"]\n" in
    then (holds c.args.out.now) (holds c.write_earlier_node.new.out) end node (front ++ (label ++ back)) c.in_ok-write_earlier_node.ensures
    (then (holds c.write_earlier_node.new.out) (holds c.write.new.self) end front (label ++ back) c.in_ok-write.ensures.bytes
    (then (holds c.write.new.self) (holds c.write_label.new.out) end label back c.in_ok-write_label.ensures c.in_ok-writeln.ensures.bytes))
