use Rattle.std.proofs.Common.{◌++◌}
use Rattle.std.specs.List.{flat_map}
use Rattle.cli_lines.specs.ConflictLines.{flag_lines, key_line, chaincode_line}
use Rattle.cli_lines.proofs.Written.{then}
use Rattle.cli_lines.proofs.conflict_lines.write_report.Goals as goal

pub returns : goal.returns
returns g c = λ reasons counts.
    let keys = flat_map (key_line c.args.format) c.args.keys.now in
    let chaincodes = flat_map (chaincode_line c.args.format) c.args.chaincodes.now in
    then (g.W.Write.contents c.args.out.now) (g.W.Write.contents c.write_flag_counts.new.out) (g.W.Write.contents c.write_chaincodes.new.out) (flag_lines c.args.format reasons) (keys ++ chaincodes)
    (c.in_ok-write_flag_counts.ensures reasons counts)
    (then (g.W.Write.contents c.write_flag_counts.new.out) (g.W.Write.contents c.write_key_counts.new.out) (g.W.Write.contents c.write_chaincodes.new.out) keys chaincodes
    c.in_ok-write_key_counts.ensures c.in_ok-write_chaincodes.ensures)
