use Rattle.std.proofs.Common.{◌++◌, codes}
use Rattle.std.specs.Fmt.{decimal}
use Rattle.hex.specs.Hex.{encode_lower}
use Rattle.cli_lines.proofs.Written.{then}
use Rattle.cli_lines.proofs.block_lines.write_opened.Goals as goal

pub returns : goal.returns
returns g c =
    let holds = g.W.Write.contents in
    let front = codes "{\"kind\":\"" ++ (c.args.kind.now ++ (codes "\",\"number\":" ++ (decimal c.args.number ++ codes ",\"hash\":\""))) in
    let hash = encode_lower c.args.hash.now in
    let quote = codes "\"" in
    then (holds c.args.out.now) (holds c.write.new.self) (holds c.write-2.new.self) front (hash ++ quote) c.in_ok-write.ensures.bytes
    (then (holds c.write.new.self) (holds c.write_hash.new.out) (holds c.write-2.new.self) hash quote c.in_ok-write_hash.ensures c.in_ok-write-2.ensures.bytes)
