use Rattle.std.proofs.Common.{ℕ, List, Option}
use Rattle.std.specs.List.{filter}
use Rattle.rules.specs.Answers.{range_answer}
use Rattle.rules.specs.Ranges.{is_within}
use Rattle.ledger_commands.specs.Asking.{rows_text}
use Rattle.ledger_commands.specs.Kept.{Adds}
use Rattle.ledger_commands.proofs.Scanned.{up_to}
use Rattle.ledger_commands.proofs.scan.RowsOfQuestion.tell.Given as goal

-- with the lines of the rows that are left, all are added
abbrev pub invariant-loop-keyed : goal.invariant-loop-keyed
invariant-loop-keyed g l = (now : Option (List ℕ)) → (left : List ℕ)
    → Adds (g.W.Write.contents l.out) l.kept.items now left (rows_text l.format (up_to l.left (filter (λ e. is_within l.self.bounds.start l.self.bounds.end e.0.1) l.keyed-iterator)))
    → Adds (g.W.Write.contents l.fn.out) l.fn.kept.items now left (rows_text l.format (range_answer l.world l.self.namespace l.self.bounds.start l.self.bounds.end l.self.limit))
