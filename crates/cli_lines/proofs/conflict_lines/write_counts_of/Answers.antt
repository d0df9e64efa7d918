use Rattle.std.proofs.Common.{◌+◌, ◌++◌, ◌∷◌, [], take, get_or, sym, ap, ◌∙◌}
use Rattle.std.proofs.lemmas.List.{take_more, append-nil}
use Rattle.std.proofs.lemmas.Grind.{flat_map-append}
use Rattle.rules.specs.declared.flag.Flag.TheVariants.{Valid}
use Rattle.cli_lines.specs.ConflictLines.{counted_line, lines_of}
use Rattle.cli_lines.proofs.Written.{then_whole}
use Rattle.cli_lines.proofs.conflict_lines.write_counts_of.Goals as goal

pub loop-flag-preserved : goal.loop-flag-preserved
loop-flag-preserved g c = λ reasons counts.
    let i = c.loop-flag.flag-index in
    let flags = c.args.flags.now in
    let flag = get_or flags i Valid in
    then_whole (g.W.Write.contents c.args.out.now) (g.W.Write.contents c.loop-flag.out) (g.W.Write.contents c.write_counted.new.out)
    (lines_of c.args.format reasons (take i flags)) (counted_line c.args.format reasons flag) (lines_of c.args.format reasons (take (i + 1) flags))
    (c.loop-flag.invariant reasons counts) (c.in_ok-write_counted.ensures reasons counts)
    (ap (λ l. lines_of c.args.format reasons (take i flags) ++ l) (sym (append-nil (counted_line c.args.format reasons flag)))
    ∙ sym (flat_map-append (counted_line c.args.format reasons) (take i flags) (flag ∷ []))
    ∙ ap (lines_of c.args.format reasons) (sym (take_more flags i Valid c.loop-flag-test.true)))
