use Rattle.std.proofs.Common.{◌≡◌, ◌∷◌, ◌∙◌, List, sym, ap, subst}
use Rattle.std.specs.List.{flat_map}
use Rattle.cli_lines.specs.RowLines.{entry_line}
use Rattle.rules.specs.declared.history.HistoryEntry.{HistoryEntry}
use Rattle.ledger_commands.specs.Kept.{Adds}
use Rattle.ledger_commands.proofs.Adding.{line_added}
use Rattle.ledger_commands.proofs.history.HistoryOfQuestion.tell.Goals as goal

pub loop-entry-preserved : goal.loop-entry-preserved
loop-entry-preserved g c now left added =
    let line = entry_line c.args.format in
    let entry = c.in_ok-entry.field-0 in
    let rest = c.next.new.self in
    let before = g.W.Write.contents c.loop-entry.out in
    let taken : c.loop-entry.entry-iterator ≡ entry ∷ rest = c.in-Some.ensures.steps ∙ ap (λ (e : HistoryEntry). e ∷ rest) (sym c.in_ok-entry.ensures) in
    let longer = line_added before (g.W.Write.contents c.write_many.new.out) now c.loop-entry.kept.items c.write_entry.new.out.items c.write_many.new.kept.items left (line entry) (flat_map line rest)
    c.in_ok-write_entry.ensures c.in_ok-write_many.ensures added in
    c.loop-entry.invariant now left (subst (λ (entries : List HistoryEntry). Adds before c.loop-entry.kept.items now left (flat_map line entries)) (sym taken) longer)
