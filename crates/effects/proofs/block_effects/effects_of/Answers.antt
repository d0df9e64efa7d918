use Rattle.std.proofs.Common.{List, sym, ap, subst, ◌∙◌}
use Rattle.std.proofs.lemmas.List.{length-map}
use Rattle.rules.specs.State.{StateKey, with_changes}
use Rattle.rules.specs.Delta.{AreRealChanges}
use Rattle.key_chains.specs.Job.{keys_of}
use Rattle.effects.specs.Rows.{kept_changes_at, row_in, rows_in}
use Rattle.effects.proofs.FinalChanges.{changes_make, changes_real, keys_rise}
use Rattle.effects.proofs.Kept.{kept_are}
use Rattle.effects.proofs.block_effects.effects_of.Goals as goal

pub returns-clause-state : goal.returns-clause-state
returns-clause-state c =
    let written = c.in_ok-written.ensures in
    let ws = c.in_ok-written.written.rows.items in
    ap (with_changes c.args.job.now.state) (c.in_ok-changes_to_rows.ensures ∙ ap (λ (ks : List StateKey). kept_changes_at ks ws) c.keys-keys.ensures ∙ kept_are (keys_of c.args.job.now) ws written.keys)
    ∙ changes_make c.keys_have_one_order.ensures.members c.args.job.now (rows_in ws) (length-map ws row_in ∙ written.count) written.rows

pub returns-clause-changes : goal.returns-clause-changes
returns-clause-changes c =
    let written = c.in_ok-written.ensures in
    let ks = keys_of c.args.job.now in
    let ws = c.in_ok-written.written.rows.items in
    subst (AreRealChanges c.args.job.now.state) (sym (c.in_ok-changes_to_rows.ensures ∙ ap (λ (l : List StateKey). kept_changes_at l ws) c.keys-keys.ensures ∙ kept_are ks ws written.keys)) (record {
      rising = keys_rise ks (rows_in ws) (c.keys_have_one_order.ensures.rising _);
      real = changes_real c.args.job.now.state ks (rows_in ws) written.real;
    })
