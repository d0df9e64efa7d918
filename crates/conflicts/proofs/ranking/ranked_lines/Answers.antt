use Rattle.std.proofs.Common.{List, subst}
use Rattle.std.specs.List.Sorted.{IsPermutation}
use Rattle.conflicts.specs.Ranking.{Line}
use Rattle.conflicts.proofs.Ranked.{ranked}
use Rattle.conflicts.proofs.ranking.ranked_lines.Goals as goal

pub returns : goal.returns
returns c = λ conflicts counts.
    let sorted = c.sort_unstable.new.self.items in
    let moved = subst (λ (xs : List Line). IsPermutation xs sorted) c.in_ok-lines.ensures.lines c.sort_unstable.ensures.permutation in
    ranked conflicts c.args.table.now.entries sorted c.in_ok-lines.ensures.ordered counts moved c.sort_unstable.ensures.sorted
