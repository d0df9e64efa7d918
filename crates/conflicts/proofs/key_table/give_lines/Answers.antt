use Rattle.std.proofs.Common.{List, subst, ◌∙◌}
use Rattle.std.specs.Prelude.{IsTrue}
use Rattle.std.specs.List.{All}
use Rattle.std.proofs.lemmas.List.{take_all}
use Rattle.std.proofs.lemmas.List.Elements.{All-more}
use Rattle.conflicts.specs.declared.conflict.Conflict.{Conflict}
use Rattle.conflicts.specs.Tally.{has_line}
use Rattle.conflicts.proofs.key_table.give_lines.Goals as goal

pub loop-conflict-preserved : goal.loop-conflict-preserved
loop-conflict-preserved c =
    let new = c.give_line.new.lines.entries in
    record {
      counts = λ k. c.give_line.ensures.counts k ∙ c.loop-conflict.invariant.counts k;
      there = All-more (λ (x : Conflict). IsTrue (has_line new x.key)) c.args.conflicts.now c.loop-conflict.conflict-index c.conflict-item.result c.loop-conflict-test.true
          (λ k d l. c.give_line.ensures.kept _ (c.loop-conflict.invariant.there k d l))
          (subst (λ (x : Conflict). IsTrue (has_line new x.key)) c.conflict-item.is c.in_ok-give_line.ensures.ok);
    }

pub returns-clause-ok : goal.returns-clause-ok
returns-clause-ok c =
    subst (λ (xs : List Conflict). All (λ (x : Conflict). IsTrue (has_line c.loop-conflict.lines.entries x.key)) xs)
    (take_all c.loop-conflict.conflict-index c.args.conflicts.now c.loop-conflict-test.false) c.loop-conflict.invariant.there
