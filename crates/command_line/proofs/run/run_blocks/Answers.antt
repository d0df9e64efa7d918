use Rattle.std.proofs.Common.{ℕ, List, inr, subst}
use Rattle.std.proofs.lemmas.Result.{err_from_is_err_and}
use Rattle.command_files.specs.Failing.{InputsFail}
use Rattle.command_files.proofs.Failing.{because}
use Rattle.ledger_commands.proofs.Failing.{nothing_printed}
use Rattle.key_book.specs.Book.{accepts}
use Rattle.command_line.specs.declared.lines.Style.{Style}
use Rattle.command_line.specs.Handing.{IsAllTold}
use Rattle.command_line.proofs.Printing.{is_printed}
use Rattle.command_line.proofs.run.run_blocks.Goals as goal

pub returns-clause-ok : goal.returns-clause-ok
returns-clause-ok g c =
    let words = c.args.words.now in
    let style : Style = record { format = words.paths.format; hashes = words.hashes } in
    let channel = c.in_ok-channel.field-0.channel in
    let keys = c.in_ok-channel.field-0.keys in
    let old = c.in_ok-committer.committer in
    let new = c.write_lines-ended.new.committer in
    let before = g.W.Write.contents c.args.out.now in
    let now = g.W.Write.contents c.write_lines-ended.new.out in
    let blocks = c.in_ok-blocks.blocks.items in
    let all = c.in_ok-ended.ensures in
    let all_read = subst (λ n. IsAllTold (accepts keys) style n old before c.deref.result.now c.in_ok-ended.field-0 new now) c.in_ok-committer.ensures.count all in
    let of_blocks = subst (λ (l : List (List ℕ)). IsAllTold (accepts keys) style words.parallelism.readers old before l c.in_ok-ended.field-0 new now) c.deref.ensures.value all_read in
    let printed = is_printed channel keys style words.parallelism.readers old new before now blocks c.in_ok-ended.field-0 c.in_ok-committer.ensures.channel c.in_ok-committer.ensures.empty of_blocks in
    record {
      channel = channel;
      keys = keys;
      configured = c.in_ok-channel.ensures.ok;
      blocks = blocks;
      held = c.in_ok-blocks.ensures.ok;
      text = printed.text;
      printed_for = printed.printed_for;
      written = printed.written;
    }

pub returns-in_err-blocks-clause-err : goal.returns-in_err-blocks-clause-err
returns-in_err-blocks-clause-err g c =
    let p = err_from_is_err_and c.from_residual-in_err-blocks.result c.from_residual-in_err-blocks.ensures.1 in
    let fails = InputsFail (g.F.Files.holds c.args.files.now) (g.F.Files.unreadable c.args.files.now) c.args.words.now.paths in
    let fault = c.in_err-blocks.field-0.0 in
    rw (p.1, p.2) (nothing_printed fails (g.W.Write.contents c.args.out.now) fault
    (because _ _ (λ what unread. inr (c.in_ok-channel.field-0.channel, c.in_ok-channel.field-0.keys, c.in_ok-channel.ensures.ok, unread)) fault c.in_err-blocks.ensures.err))
