use Rattle.std.proofs.Common.{subst, sym, ◌∙◌}
use Rattle.conflicts.specs.Conflict.{conflicts_of}
use Rattle.conflicts.specs.Tally.{Tally, CountsKeys}
use Rattle.conflicts.proofs.tally.Tally.worst_keys.Goals as goal

pub returns : goal.returns
returns c = λ reasons counted.
    let first = c.in_ok-first_lines.ensures (conflicts_of reasons) (subst (λ (t : Tally). CountsKeys (conflicts_of reasons) t.keys) (sym c.self.view_is) counted.keys) in
    (first.0, first.1, c.from_vec.ensures ∙ first.2)
