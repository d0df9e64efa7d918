use Rattle.std.proofs.Common.{◌++◌, ℕ, List, subst, sym}
use Rattle.std.specs.Io.KnownBytes.{Appends}
use Rattle.key_book.specs.Book.{accepts}
use Rattle.rules.specs.World.{World, height_of}
use Rattle.cli_lines.specs.RowLines.{height_line}
use Rattle.ledger_commands.specs.Asking.{AnswersFrom, IsBehind}
use Rattle.ledger_commands.specs.Handing.{AreTaken, LedgerTakes}
use Rattle.ledger_commands.proofs.Behind.{behind}
use Rattle.ledger_commands.proofs.Outcomes.{follows}
use Rattle.ledger_commands.proofs.question.answer_from.Goals as goal

pub returns : goal.returns
returns g c =
    let channel = c.args.inputs.configuration.channel in
    let keys = c.args.inputs.configuration.keys in
    let blocks = c.args.inputs.blocks.items in
    let tells = g.Q.Question.tells c.args.question.now in
    let format = c.args.format in
    let old = c.open-ledger.result in
    let new = c.hand_in-handed.new.taker in
    let before = g.W.Write.contents c.args.out.now in
    let now = g.W.Write.contents c.write_answer.new.out in
    let world = c.view.result.now in
    follows (λ status. AreTaken (LedgerTakes (accepts keys)) old 0 blocks status new) (λ status. AnswersFrom channel keys blocks tells format before status now)
    ((text : List ℕ) × tells format world text × Appends before now (height_line format (height_of world) ++ text))
    c.write_answer.result c.hand_in-handed.result c.write_answer.ensures.same c.hand_in-handed.ensures c.write_answer.ensures.text
    (λ status taken told. record {
      world = world;
      behind = subst (λ (w : World). IsBehind channel keys blocks w status) (sym c.view.ensures) (behind channel keys old blocks status new c.open-ledger.ensures.channel c.open-ledger.ensures.world taken);
      text = told.0;
      told = told.1;
      written = told.2;
    })
