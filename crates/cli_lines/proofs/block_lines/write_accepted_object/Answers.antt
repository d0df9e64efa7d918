use Rattle.std.proofs.Common.{◌++◌, codes}
use Rattle.cli_lines.proofs.Written.{then}
use Rattle.cli_lines.specs.BlockLines.{opened, flag_list}
use Rattle.cli_lines.proofs.block_lines.write_accepted_object.Goals as goal

pub returns : goal.returns
returns g c =
    let holds = g.W.Write.contents in
    let front = opened (codes "accepted") c.args.number c.args.header_hash.now in
    let name = codes ",\"flags\":[" in
    let flags = flag_list c.args.flags.now in
    let end = codes "]}\n" in
    then (holds c.args.out.now) (holds c.write_opened.new.out) (holds c.writeln.new.self) front (name ++ (flags ++ end)) c.in_ok-write_opened.ensures
    (then (holds c.write_opened.new.out) (holds c.write.new.self) (holds c.writeln.new.self) name (flags ++ end) c.in_ok-write.ensures.bytes
    (then (holds c.write.new.self) (holds c.write_flag_list.new.out) (holds c.writeln.new.self) flags end c.in_ok-write_flag_list.ensures c.in_ok-writeln.ensures.bytes))
