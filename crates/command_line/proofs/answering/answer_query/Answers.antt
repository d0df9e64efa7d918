use Rattle.std.proofs.Common.{◌⊎◌, inl, inr}
use Rattle.std.proofs.lemmas.Result.{IfOk-weaker, MatchResult-weaker}
use Rattle.commit.specs.Committing.{world_of}
use Rattle.cli_lines.specs.SessionLines.{end_line, fault_line}
use Rattle.command_files.specs.Failing.{at_fault}
use Rattle.ledger_commands.specs.Querying.{HasStatus, Tells}
use Rattle.command_line.proofs.Answered.{told_for, if_told}
use Rattle.command_line.proofs.answering.answer_query.Goals as goal

pub returns : goal.returns
returns g c =
    let format = c.args.desk.now.format in
    let world = world_of c.args.committer.now in
    let query = c.args.query.now in
    IfOk-weaker c.tell_ended.result _ _
    (λ _ written. elim (told_for at_fault (Tells query format world) (HasStatus query) (fault_line format) (end_line format)
    query (g.W.Write.contents c.args.out.now) (g.W.Write.contents c.ask-ended.new.out) (g.W.Write.contents c.tell_ended.new.out) c.ask-ended.result c.args.kept.now.items c.ask-ended.new.kept.items
    c.requires c.ask-ended.ensures.ok c.ask-ended.ensures.status c.ask-ended.ensures.err
    (MatchResult-weaker c.ask-ended.result written (λ _ w. w) (λ _ f. (f.0, (f.1.text, f.1.status, f.1.printed))))) [
      | inl a ↦ inl (if_told query (λ a. record { text = a.0; told = a.1; status = a.2.0; is_status = a.2.1; printed = a.2.2 }) a)
      | inr f ↦ inr (record { text = f.0; status = f.1; printed = f.2 })
    ])
    c.tell_ended.ensures
