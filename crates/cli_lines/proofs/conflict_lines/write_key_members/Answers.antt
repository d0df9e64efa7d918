use Rattle.std.proofs.Common.{◌++◌, codes}
use Rattle.std.specs.Fmt.{decimal}
use Rattle.cli_lines.proofs.Written.{then}
use Rattle.json_lines.specs.Json.{value_of}
use Rattle.cli_lines.specs.ConflictLines.{way_members}
use Rattle.cli_lines.proofs.conflict_lines.write_key_members.Goals as goal

pub returns : goal.returns
returns g c =
    let holds = g.W.Write.contents in
    let end = holds c.write_way_members.new.out in
    let front = codes "{\"kind\":\"key\",\"namespace\":" in
    let namespace = value_of c.args.namespace.now in
    let name = codes ",\"key\":" in
    let key = value_of c.args.key.now in
    let count = codes ",\"count\":" ++ decimal c.args.total in
    let ways = way_members c.args.counts.now in
    then (holds c.args.out.now) (holds c.write.new.self) end front (namespace ++ (name ++ (key ++ (count ++ ways)))) c.in_ok-write.ensures.bytes
    (then (holds c.write.new.self) (holds c.write_value.new.out) end namespace (name ++ (key ++ (count ++ ways))) c.in_ok-write_value.ensures
    (then (holds c.write_value.new.out) (holds c.write-2.new.self) end name (key ++ (count ++ ways)) c.in_ok-write-2.ensures.bytes
    (then (holds c.write-2.new.self) (holds c.write_value-2.new.out) end key (count ++ ways) c.in_ok-write_value-2.ensures
    (then (holds c.write_value-2.new.out) (holds c.write-3.new.self) end count ways c.in_ok-write-3.ensures.bytes c.in_ok-write_way_members.ensures))))
