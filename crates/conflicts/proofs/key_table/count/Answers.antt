use Rattle.std.proofs.Common.{ap, ◌∙◌, rules}
use Rattle.std.specs.Prelude.{unwrap_or}
use Rattle.conflicts.specs.Tally.{no_counts, with_conflict}
use Rattle.conflicts.proofs.Lines.{counts_more}
use Rattle.conflicts.proofs.key_table.count.Goals as goal

pub returns-in-Some-clause-counts : goal.returns-in-Some-clause-counts
returns-in-Some-clause-counts c =
    let conflict = c.args.conflict.now in
    counts_more conflict c.with.result c.args.lines.now.entries (c.get_mut.follows.lender c.with.result).entries
    (λ q. ((c.get_mut.follows.holds c.with.result).3 (search rules)).0 q)
    (c.with.ensures ∙ ap (with_conflict conflict.kind conflict.in_block) (ap (λ o. unwrap_or o no_counts) c.in-Some.ensures.value))
