use Rattle.std.proofs.Common.{ℕ, List}
use Rattle.std.specs.Io.KnownBytes.{Appends}
use Rattle.key_book.specs.Book.{accepts}
use Rattle.rules.specs.World.{empty_world}
use Rattle.reasons.specs.declared.reason.Reason.{Reason}
use Rattle.conflicts.specs.Tally.{Counts}
use Rattle.cli_lines.specs.ConflictLines.{IsReport}
use Rattle.ledger_commands.specs.declared.conflict_counts.CountedLedger.{CountedLedger}
use Rattle.ledger_commands.specs.Counting.{CountedTakes, IsTold}
use Rattle.ledger_commands.specs.Handing.{AreTaken}
use Rattle.ledger_commands.proofs.Counted.{told}
use Rattle.ledger_commands.proofs.Outcomes.{follows}
use Rattle.ledger_commands.proofs.conflict_counts.count_in.Goals as goal

pub returns : goal.returns
returns g c =
    let channel = c.args.inputs.configuration.channel in
    let accepting = accepts c.args.inputs.configuration.keys in
    let blocks = c.args.inputs.blocks.items in
    let format = c.args.words.now.paths.format in
    let top = c.args.words.now.top in
    let before = g.W.Write.contents c.args.out.now in
    let after = g.W.Write.contents c.write_counted.new.out in
    let old : CountedLedger = record { ledger = c.open.result; tally = c.new.result; from = c.args.words.now.from } in
    let new = c.hand_in-handed.new.taker in
    follows (λ status. AreTaken (CountedTakes accepting) old 0 blocks status new) (λ status. IsTold format channel accepting old.from (empty_world channel.definitions) blocks top before status after)
    ((reasons : List Reason) → Counts reasons new.tally → (text : List ℕ) × IsReport format reasons top text × Appends before after text)
    c.write_counted.result c.hand_in-handed.result c.write_counted.ensures.handed c.hand_in-handed.ensures c.write_counted.ensures.report
    (λ status taken report. told accepting format channel (empty_world channel.definitions) old blocks status new top before after c.open.ensures.channel c.open.ensures.world c.new.ensures taken report)
