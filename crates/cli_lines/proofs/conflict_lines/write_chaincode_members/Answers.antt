use Rattle.std.proofs.Common.{◌++◌, codes}
use Rattle.std.specs.Fmt.{decimal}
use Rattle.cli_lines.proofs.Written.{then}
use Rattle.json_lines.specs.Json.{value_of}
use Rattle.cli_lines.proofs.conflict_lines.write_chaincode_members.Goals as goal

pub returns : goal.returns
returns g c =
    let holds = g.W.Write.contents in
    let end = holds c.writeln.new.self in
    let front = codes "{\"kind\":\"chaincode\",\"chaincode\":" in
    let chaincode = value_of c.args.chaincode.now in
    let count = codes ",\"count\":" ++ (decimal c.args.transactions ++ codes ",\"missing\":") in
    let principal = value_of c.args.principal.now in
    let times = codes ",\"times\":" ++ (decimal c.args.times ++ codes "}\n") in
    then (holds c.args.out.now) (holds c.write.new.self) end front (chaincode ++ (count ++ (principal ++ times))) c.in_ok-write.ensures.bytes
    (then (holds c.write.new.self) (holds c.write_value.new.out) end chaincode (count ++ (principal ++ times)) c.in_ok-write_value.ensures
    (then (holds c.write_value.new.out) (holds c.write-2.new.self) end count (principal ++ times) c.in_ok-write-2.ensures.bytes
    (then (holds c.write-2.new.self) (holds c.write_value-2.new.out) end principal times c.in_ok-write_value-2.ensures c.in_ok-writeln.ensures.bytes)))
