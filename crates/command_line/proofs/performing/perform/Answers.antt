use Rattle.std.proofs.Common.{IfErr, subst, sym}
use Rattle.std.proofs.lemmas.Result.{IfErr-weaker}
use Rattle.cli_words.specs.declared.command.Asked.{Asked}
use Rattle.command_line.specs.Ending.{EndsEarly}
use Rattle.ledger_commands.specs.Failing.{DraftFails}
use Rattle.ledger_commands.proofs.Failing.{nothing_printed}
use Rattle.command_line.proofs.performing.perform.Goals as goal

pub returns-in-Draft-clause-err : goal.returns-in-Draft-clause-err
returns-in-Draft-clause-err g c =
    let files = c.args.files.now in
    let before = g.W.Write.contents c.args.out.now in
    subst (λ (asked : Asked). IfErr c.draft_block.result (EndsEarly (g.F.Files.holds files) (g.F.Files.unreadable files) (g.F.Files.unwritable files) asked before before)) (sym c.in-Draft.is)
    (IfErr-weaker c.draft_block.result _ _ (nothing_printed (DraftFails (g.F.Files.holds files) (g.F.Files.unreadable files) (g.F.Files.unwritable files) c.in-Draft.words) before) c.draft_block.ensures.err)
