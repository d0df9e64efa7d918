use Rattle.std.proofs.Common.{◌≡◌, ◌++◌, [], map, take, drop}
use Rattle.conflicts.specs.Chaincodes.{firsts, line_in}
use Rattle.conflicts.proofs.chaincode_line.firsts.Given as goal

abbrev pub invariant-loop-place : goal.invariant-loop-place
invariant-loop-place l =
    l.chaincodes.items ++ map (line_in l.lines) (firsts (take l.place l.lines) (drop l.place l.lines)) ≡ map (line_in l.lines) (firsts [] l.lines)
