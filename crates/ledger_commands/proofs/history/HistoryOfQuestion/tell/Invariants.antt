use Rattle.std.proofs.Common.{ℕ, List, Option}
use Rattle.std.specs.List.{flat_map}
use Rattle.rules.specs.Answers.{history_answer}
use Rattle.cli_lines.specs.RowLines.{entry_line}
use Rattle.ledger_commands.specs.Kept.{Adds}
use Rattle.ledger_commands.proofs.history.HistoryOfQuestion.tell.Given as goal

-- with the lines of the entries that are left, all are added
abbrev pub invariant-loop-entry : goal.invariant-loop-entry
invariant-loop-entry g l = (now : Option (List ℕ)) → (left : List ℕ) → Adds (g.W.Write.contents l.out) l.kept.items now left (flat_map (entry_line l.format) l.entry-iterator)
    → Adds (g.W.Write.contents l.fn.out) l.fn.kept.items now left (flat_map (entry_line l.format) (history_answer l.world (l.self.0.namespace, l.self.0.key)))
