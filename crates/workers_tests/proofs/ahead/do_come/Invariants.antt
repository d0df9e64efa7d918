use Rattle.std.proofs.Common.{◌≡◌}
use Rattle.pieces.specs.Pieces.{IsMade}
use Rattle.workers_tests.proofs.ahead.do_come.Given as goal

abbrev pub ghosts-are_taken_in_scope : goal.ghosts-are_taken_in_scope
ghosts-are_taken_in_scope g a = record {
  may_be = λ place made. IsMade (λ piece made. made ≡ piece) a.pieces.now place made;
  may_be_part = λ place count number made. IsMade (λ piece made. made ≡ piece) a.pieces.now place made;
}
