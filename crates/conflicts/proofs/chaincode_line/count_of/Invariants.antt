use Rattle.std.proofs.Common.{◌≡◌, take}
use Rattle.conflicts.specs.Chaincodes.{is_in}
use Rattle.conflicts.specs.Laws.{total_where}
use Rattle.conflicts.proofs.chaincode_line.count_of.Given as goal

abbrev pub invariant-loop-line : goal.invariant-loop-line
invariant-loop-line l = l.count ≡ total_where (is_in l.chaincode) (take l.line-index l.lines)
