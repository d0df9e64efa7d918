use Rattle.std.proofs.Common.{◌≡◌, ◌+◌, ◌<◌, ◌^◌, length}
use Rattle.std.specs.Str.Iter.{lines_rest}
use Rattle.text_lines.specs.Statements.{statements_after}
use Rattle.text_lines.proofs.lines.StatementsIterator.next.Given as goal

-- no statement was passed over, and the count of lines still fits
abbrev pub invariant-loop-line : goal.invariant-loop-line
invariant-loop-line l = record {
  left : statements_after l.self-inside.taken (lines_rest l.self-inside.lines) ≡ l.fn.self;
  fits : l.self-inside.taken + length (lines_rest l.self-inside.lines) < 2 ^ 64;
}

abbrev pub decreases-loop-line : goal.decreases-loop-line
decreases-loop-line l = length (lines_rest l.self-inside.lines)
