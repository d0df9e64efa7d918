use Rattle.std.proofs.Common.{subst, sym, ◌∙◌}
use Rattle.rules.specs.State.{StateKey}
use Rattle.conflicts.specs.declared.key_counts.KeyCounts.{KeyCounts}
use Rattle.conflicts.proofs.Lines.{IsSet, none_more}
use Rattle.conflicts.proofs.key_table.give_line.Goals as goal

pub returns-in_ok-insert-clause-counts : goal.returns-in_ok-insert-clause-counts
returns-in_ok-insert-clause-counts c =
    let key = c.args.key.now in
    let old = c.args.lines.now.entries in
    let new = c.insert.new.self.entries in
    none_more key old new
    (subst (λ (v : KeyCounts). IsSet key v old new) c.none.ensures
    (subst (λ (k : StateKey). IsSet k c.none.result old new) c.in_ok-share.ensures (λ q. c.in_ok-insert.ensures.updates.0 q)))
    (sym c.contains_key.ensures ∙ c.if-not-contains_key.true)
