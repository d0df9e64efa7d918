use Rattle.conflicts.proofs.ranking.first_lines.Goals as goal

pub returns : goal.returns
returns c = λ conflicts counts. (c.in_ok-lines.lines.items, c.in_ok-lines.ensures conflicts counts, c.truncate.ensures.items)
