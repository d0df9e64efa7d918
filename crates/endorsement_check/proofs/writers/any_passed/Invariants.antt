use Rattle.std.proofs.Common.{◌≡◌, ◌<◌, ℕ, All}
use Rattle.std.specs.List.{list_any, Contains}
use Rattle.rules.specs.Assignment.{Assignment}
use Rattle.rules.specs.Sure.{Agrees}
use Rattle.endorsement_check.proofs.writers.any_passed.Given as goal

-- those that are left decide
abbrev pub invariant-loop-h : goal.invariant-loop-h
invariant-loop-h g l = record {
  moves : g.B.Board.moves l.initial.board l.board;
  earlier : All (λ h. h < l.i) l.h-iterator;
  among : (n : ℕ) → Contains l.h-iterator n → Contains l.fn.writers n;
  left : (called : Assignment) → Agrees (g.B.Board.known l.board).endorsed l.i called → list_any called l.fn.writers ≡ list_any called l.h-iterator;
}
