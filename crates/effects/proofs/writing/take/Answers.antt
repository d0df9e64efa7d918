use Rattle.std.proofs.Common.{sym, ap, ◌∙◌}
use Rattle.std.proofs.lemmas.Result.{IfOk-weaker}
use Rattle.rules.specs.Flags.{is_valid}
use Rattle.effects.specs.Rows.{rows_in}
use Rattle.effects.proofs.NextStates.{shows-invalid, shows-nothing, shows-opened, makes-invalid, makes-nothing, makes-opened}
use Rattle.effects.proofs.writing.take.Goals as goal

pub returns-then-not-is_valid-clause-rows : goal.returns-then-not-is_valid-clause-rows
returns-then-not-is_valid-clause-rows c =
    shows-invalid c.args.job.now c.args.i (rows_in c.args.all.now.rows.items) (ap is_valid (sym c.requires.flag) ∙ sym c.is_valid.ensures ∙ c.if-not-is_valid.true)

pub returns-in-None-clause-rows : goal.returns-in-None-clause-rows
returns-in-None-clause-rows c =
    shows-nothing c.args.job.now c.args.i (rows_in c.args.all.now.rows.items) (ap is_valid (sym c.requires.flag) ∙ sym c.is_valid.ensures ∙ c.if-not-is_valid.false) c.in-None.ensures.tx

pub returns-in-Some-clause-rows : goal.returns-in-Some-clause-rows
returns-in-Some-clause-rows c =
    IfOk-weaker c.write_all.result _ _
    (λ _ step. shows-opened c.args.job.now c.args.i (rows_in c.args.all.now.rows.items) (rows_in c.write_all.new.all.rows.items) c.in-Some.open_tx.now c.keys_have_one_order.ensures.members (ap is_valid (sym c.requires.flag) ∙ sym c.is_valid.ensures ∙ c.if-not-is_valid.false) c.in-Some.ensures.tx step)
    c.write_all.ensures.rows

pub returns-then-not-is_valid-clause-entries : goal.returns-then-not-is_valid-clause-entries
returns-then-not-is_valid-clause-entries c =
    makes-invalid c.args.job.now c.args.i c.args.all.now.entries.items (ap is_valid (sym c.requires.flag) ∙ sym c.is_valid.ensures ∙ c.if-not-is_valid.true)

pub returns-in-None-clause-entries : goal.returns-in-None-clause-entries
returns-in-None-clause-entries c =
    makes-nothing c.args.job.now c.args.i c.args.all.now.entries.items (ap is_valid (sym c.requires.flag) ∙ sym c.is_valid.ensures ∙ c.if-not-is_valid.false) c.in-None.ensures.tx

pub returns-in-Some-clause-entries : goal.returns-in-Some-clause-entries
returns-in-Some-clause-entries c =
    let order = c.keys_have_one_order.ensures in
    IfOk-weaker c.write_all.result _ _
    (λ _ more. makes-opened c.args.job.now c.args.i c.args.all.now.entries.items c.write_all.new.all.entries.items c.in-Some.open_tx.now order.members order.rising (ap is_valid (sym c.requires.flag) ∙ sym c.is_valid.ensures ∙ c.if-not-is_valid.false) c.in-Some.ensures.tx more)
    c.write_all.ensures.entries
