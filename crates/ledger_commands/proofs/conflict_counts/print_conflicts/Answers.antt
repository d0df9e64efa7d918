use Rattle.std.proofs.lemmas.Result.{err_from_is_err_and}
use Rattle.command_files.specs.Failing.{InputsFail}
use Rattle.ledger_commands.proofs.Buffers.{whole}
use Rattle.ledger_commands.proofs.Failing.{nothing_printed}
use Rattle.ledger_commands.proofs.conflict_counts.print_conflicts.Goals as goal

pub returns-clause-ok : goal.returns-clause-ok
returns-clause-ok g c =
    let inputs = c.in_ok-inputs.inputs in
    let told = c.in_ok-status.ensures in
    record {
      channel = inputs.configuration.channel;
      keys = inputs.configuration.keys;
      configured = c.in_ok-inputs.ensures.configuration;
      blocks = inputs.blocks.items;
      held = c.in_ok-inputs.ensures.blocks;
      told = record {
        answers = told.answers;
        reasons = told.reasons;
        of_all = told.of_all;
        told = told.told;
        is_status = told.is_status;
        text = told.text;
        report = told.report;
        written = whole (g.W.Write.contents c.args.out.now) (g.W.Write.contents c.write_all.new.self) (g.W.Write.contents c.flush.new.self) c.new-lines.result.items c.count_in.new.out.items c.as_slice.result.now told.text
            c.new-lines.ensures.items c.as_slice.ensures.value told.written c.in_ok-write_all.ensures.bytes c.flush.ensures.bytes;
      };
    }

pub returns-in_err-inputs-clause-err : goal.returns-in_err-inputs-clause-err
returns-in_err-inputs-clause-err g c =
    let p = err_from_is_err_and c.from_residual.result c.from_residual.ensures.1 in
    rw (p.1, p.2) (nothing_printed (InputsFail (g.F.Files.holds c.args.files.now) (g.F.Files.unreadable c.args.files.now) c.args.words.now.paths) (g.W.Write.contents c.args.out.now) c.in_err-inputs.field-0.0 c.in_err-inputs.ensures.err)
