use Rattle.std.proofs.Common.{List, subst}
use Rattle.std.specs.Prelude.{IsTrue}
use Rattle.std.specs.List.{All}
use Rattle.conflicts.specs.declared.conflict.Conflict.{Conflict}
use Rattle.conflicts.specs.Tally.{has_line}
use Rattle.conflicts.proofs.tables.found_lacks.Goals as goal

pub returns-clause-lines : goal.returns-clause-lines
returns-clause-lines c =
    subst (λ (xs : List Conflict). All (λ d. IsTrue (has_line c.give_lines.new.lines.entries d.key)) xs) c.as_slice.ensures.value c.in_ok-give_lines.ensures.ok
