use Rattle.std.proofs.Common.{◌++◌, codes}
use Rattle.std.specs.Fmt.{decimal}
use Rattle.cli_lines.proofs.Written.{then}
use Rattle.cli_lines.specs.BlockLines.{refusal_members}
use Rattle.cli_lines.proofs.block_lines.write_refused_object.Goals as goal

pub returns : goal.returns
returns g c =
    let holds = g.W.Write.contents in
    let front = codes "{\"kind\":\"refused\",\"place\":" ++ (decimal c.args.place ++ codes ",\"fault\":\"") in
    let members = refusal_members c.args.refusal in
    let end = codes "}\n" in
    then (holds c.args.out.now) (holds c.write.new.self) (holds c.writeln.new.self) front (members ++ end) c.in_ok-write.ensures.bytes
    (then (holds c.write.new.self) (holds c.write_refusal_members.new.out) (holds c.writeln.new.self) members end c.in_ok-write_refusal_members.ensures c.in_ok-writeln.ensures.bytes)
